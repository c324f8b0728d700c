use Rattle.std.proofs.Common.{ℕ, ◌+◌, refl, get_or, ap, ◌∙◌, arith}
use Rattle.std.proofs.lemmas.List.{get_or_default}
use Rattle.cil_regions.proofs.Chain.{no_node}
use Rattle.cil_regions.proofs.Deep.{depths_more, too_deep, many_more}
use Rattle.cil_regions.proofs.tree.too_deep.Goals as goal
use Rattle.cil_regions.proofs.tree.too_deep.Goals.{then-k-eq0, else-k-eq0}

abbrev more : ℕ → ℕ
more n = n + 1

pub returns-then-depth-gt-DEPTH_LIMIT : goal.returns-then-depth-gt-DEPTH_LIMIT
returns-then-depth-gt-DEPTH_LIMIT c =
    let nodes = c.args.nodes.now in
    let depths = c.loop-k.depths.items in
    let place = (get_or nodes c.loop-k.k no_node).from in (
      depths,
      too_deep nodes depths c.loop-k.k c.if-k-eq0.depth no_node c.requires c.loop-k.invariant.many c.loop-k-test.true c.loop-k.invariant.fine
          (λ none. elim c.if-k-eq0.branch [ then-k-eq0 w ↦ w.depth-is | else-k-eq0 w ↦ absurd (omega (arith, none)) ])
          (λ pos. elim c.if-k-eq0.branch [ then-k-eq0 w ↦ absurd (omega (arith, pos)) | else-k-eq0 w ↦ w.depth-is ∙ ap more (w.index.ensures ∙ get_or_default depths (get_or nodes c.loop-k.k no_node).parent _ 0 (omega (arith, c.requires.before c.loop-k.k no_node pos c.loop-k-test.true, c.loop-k.invariant.many))) ])
          place
          (omega arith)
          refl,
    )

pub loop-k-preserved : goal.loop-k-preserved
loop-k-preserved c =
    let nodes = c.args.nodes.now in
    let depths = c.loop-k.depths.items in
    let new = c.push.new.self.items in
    record {
      many = many_more depths new c.loop-k.k c.if-k-eq0.depth c.loop-k.invariant.many c.in_ok-push.ensures.items;
      fine = depths_more nodes depths c.loop-k.k c.if-k-eq0.depth no_node c.requires c.loop-k.invariant.many c.loop-k-test.true c.loop-k.invariant.fine
          (λ none. elim c.if-k-eq0.branch [ then-k-eq0 w ↦ w.depth-is | else-k-eq0 w ↦ absurd (omega (arith, none)) ])
          (λ pos. elim c.if-k-eq0.branch [ then-k-eq0 w ↦ absurd (omega (arith, pos)) | else-k-eq0 w ↦ w.depth-is ∙ ap more (w.index.ensures ∙ get_or_default depths (get_or nodes c.loop-k.k no_node).parent _ 0 (omega (arith, c.requires.before c.loop-k.k no_node pos c.loop-k-test.true, c.loop-k.invariant.many))) ])
          new
          (omega arith)
          c.in_ok-push.ensures.items;
    }
