use Rattle.std.proofs.Common.{◌≡◌, ℕ, Vec, Global, ◌+◌, arith, sym, subst, ap, ◌∙◌, get_or}
use Rattle.std.proofs.lemmas.Bool.{both_ways}
use Rattle.std.specs.Cmp.{booleans_Decides}
use mathlib.Core.Bool.{beq}
use Rattle.cil_regions.specs.Region.{is_try}
use Rattle.cil_regions.proofs.Chain.{no_span, no_node}
use Rattle.cil_regions.proofs.ParentTable.{AreParentsUpto, parents_all, parents_kept, parents_more}
use Rattle.cil_regions.proofs.nesting.parents.Goals as goal
use Rattle.cil_regions.proofs.nesting.parents.Goals.{then-is_try-tries+then-first-len, else-is_try-tries, else-is_try-tries-via-then-is_try-tries+else-first-len, else-is_try-tries-via-else-is_try-tries}

pub loop-k-preserved : goal.loop-k-preserved
loop-k-preserved c =
    let spans = c.args.spans.now in
    let nodes = c.args.nodes.now in
    let tries = c.args.tries in
    let k = c.loop-k.k in
    let old = c.loop-k.parents.items in
    elim c.if-is_try-tries.branch [
      | then-is_try-tries+then-first-len w ↦
          let kind : is_try (get_or spans k no_span).kind ≡ tries = sym c.is_try.ensures ∙ (booleans_Decides c.is_try.result tries).0 w.if-is_try-tries.true in
          subst (AreParentsUpto spans nodes tries c.args.count (k + 1)) (sym (ap (λ (v : Vec ℕ Global). v.items) w.parents-is))
          (parents_more spans nodes tries c.args.count k old no_span no_node c.requires.named c.loop-k-test.true c.requires.as_many c.loop-k.invariant kind (omega arith))
      | else-is_try-tries w ↦ elim w.else-is_try-tries.branch [
        | else-is_try-tries-via-then-is_try-tries+else-first-len u ↦
            subst (AreParentsUpto spans nodes tries c.args.count (k + 1)) (sym (ap (λ (v : Vec ℕ Global). v.items) w.parents-is))
            (parents_kept spans nodes tries c.args.count k old no_span no_node c.requires.named c.loop-k-test.true c.requires.as_many c.loop-k.invariant
            (λ kind below. omega arith))
        | else-is_try-tries-via-else-is_try-tries u ↦
            subst (AreParentsUpto spans nodes tries c.args.count (k + 1)) (sym (ap (λ (v : Vec ℕ Global). v.items) w.parents-is))
            (parents_kept spans nodes tries c.args.count k old no_span no_node c.requires.named c.loop-k-test.true c.requires.as_many c.loop-k.invariant
            (λ kind below. both_ways (beq c.is_try.result tries) u.if-is_try-tries.false ((booleans_Decides c.is_try.result tries).1 (c.is_try.ensures ∙ kind))))
      ]
    ]

pub returns : goal.returns
returns c =
    parents_all c.args.spans.now c.args.nodes.now c.args.tries c.args.count c.loop-k.k c.loop-k.parents.items c.loop-k-test.false c.loop-k.invariant
