use Rattle.std.proofs.Common.{Option, sym, subst}
use Rattle.dc_base.specs.declared.names.TypeId.{TypeId}
use Rattle.cli_scopes.specs.Meant.{IsMeant}
use Rattle.cli_scopes.proofs.Settled.{answer_means, visited, visited-smaller, over, over-smaller}
use Rattle.cli_scopes.proofs.walk.settle.Goals as goal

pub loop-at-smaller-in-Continue-branch-3 : goal.loop-at-smaller-in-Continue-branch-3
loop-at-smaller-in-Continue-branch-3 c =
    rw (c.in_ok-push-in-Some-new_above-2.ensures.ok, c.in_ok-push-in-Some-new_above.ensures.ok, c.in-Some.ensures)
    (visited-smaller c.args.refs.now c.loop-at.marks c.in-Some.at c.in-Some-new_above.above c.pop.new.self (sym c.in-Some-new_above.ensures))

pub loop-at-preserved-in-Continue-branch-3 : goal.loop-at-preserved-in-Continue-branch-3
loop-at-preserved-in-Continue-branch-3 c =
    let walk = rw c.in-Some.ensures at c.loop-at.invariant in
    rw (c.in_ok-push-in-Some-new_above-2.ensures.ok, c.in_ok-push-in-Some-new_above.ensures.ok)
    (visited c.args.index.now c.args.refs.now c.args.root c.args.marks.now c.loop-at.marks c.in-Some.at c.in-Some-new_above.above c.pop.new.self walk (sym c.in-Some-new_above.ensures))

pub loop-at-smaller : goal.loop-at-smaller
loop-at-smaller c = rw c.in-Some.ensures (over-smaller c.loop-at.marks c.in-Some.at c.pop.new.self c.answer.result)

pub loop-at-preserved : goal.loop-at-preserved
loop-at-preserved c =
    let walk = rw c.in-Some.ensures at c.loop-at.invariant in
    let means : IsMeant c.args.index.now c.args.refs.now c.in-Some.at c.answer.result =
    subst (λ (f : Option TypeId). IsMeant c.args.index.now c.args.refs.now c.in-Some.at f) (sym c.answer.ensures)
    (answer_means c.args.index.now c.args.refs.now c.args.root c.args.marks.now c.loop-at.marks c.in-Some.at c.pop.new.self walk (sym c.in-None.ensures)) in
    over c.args.index.now c.args.refs.now c.args.root c.args.marks.now c.loop-at.marks c.in-Some.at c.pop.new.self c.answer.result walk means
