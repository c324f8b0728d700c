use Rattle.std.proofs.Common.{◌≡◌, ◌∙◌, false, get_or, inl, inr, sym, arith}
use Rattle.std.proofs.lemmas.List.{get_or_default}
use Rattle.cil_regions.specs.declared.region.RegionKind.TheVariants.{Code, Try, Catch, Finally}
use Rattle.cil_regions.proofs.Chain.{no_node}
use Rattle.cil_regions.proofs.Catching.{try_behind, catching_more, catch_told, no_catch_told}
use Rattle.cil_regions.proofs.rethrow.catching.Goals as goal
use Rattle.cil_regions.proofs.rethrow.catching.Goals.{in-Catch, in-Try, in-Code}

pub loop-node-preserved : goal.loop-node-preserved
loop-node-preserved c =
    let kind = (get_or c.args.nodes.now c.loop-node.node-index no_node).kind in
    catching_more c.args.nodes.now c.loop-node.catching.items c.push.new.self.items c.loop-node.node-index c.match-node.is_catching c.requires c.loop-node-test.true c.loop-node.invariant c.in_ok-push.ensures.items
    (λ try. elim c.match-node.branch [
      | in-Catch w ↦ (let clash : Catch w.in-Catch.field-0 ≡ Try = sym w.in-Catch.is ∙ try in absurd cc)
      | in-Try w ↦
          let pos = try_behind c.args.nodes.now c.requires c.loop-node.node-index no_node (omega (arith, c.loop-node-test.true)) try in
          let before = c.requires.linked.before c.loop-node.node-index no_node pos c.loop-node-test.true in
          w.is_catching-is ∙ w.index.ensures
          ∙ get_or_default c.loop-node.catching.items (get_or c.args.nodes.now c.loop-node.node-index no_node).parent w.index.result.now false (omega (arith, before, c.loop-node.invariant.as_many))
      | in-Code w ↦ elim w.in-Code.is [ inl code ↦ (let clash : Code ≡ Try = sym code ∙ try in absurd cc) | inr finally' ↦ (let clash : Finally ≡ Try = sym finally' ∙ try in absurd cc) ]
    ])
    (λ other. elim c.match-node.branch [
      | in-Catch w ↦ catch_told c.match-node.is_catching kind w.in-Catch.field-0 w.is_catching-is w.in-Catch.is
      | in-Try w ↦ absurd (other w.in-Try.is)
      | in-Code w ↦ no_catch_told c.match-node.is_catching kind w.is_catching-is w.in-Code.is
    ])
