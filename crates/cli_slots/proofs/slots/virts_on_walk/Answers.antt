use Rattle.std.proofs.Common.{◌+◌, List, [], drop, sym, subst, arith}
use Rattle.std.proofs.lemmas.Option.{slice_get-get_or}
use Rattle.class_walk.specs.declared.walk.Step.{Step}
use Rattle.class_walk.specs.Walk.{IsWholeWalk}
use Rattle.cli_slots.specs.declared.told.Told.{Told}
use Rattle.cli_slots.proofs.Stand.{at_first, next_step, walk_onward}
use Rattle.cli_slots.proofs.Walk.{told_stepped, within_stepped, none_told}
use Rattle.cli_slots.proofs.Final.{all_settled}
use Rattle.cli_slots.specs.At.{onward}
use Rattle.cli_slots.proofs.slots.virts_on_walk.Goals as goal

pub loop-step-init : goal.loop-step-init
loop-step-init c =
    let known = c.args.known.now in
    let steps = c.as_slice-step-items.result.now in
    let whole : IsWholeWalk known.types.now steps = subst (λ (l : List Step). IsWholeWalk known.types.now l) (sym c.as_slice-step-items.ensures.value) c.in_ok-walk.ensures in
    let told : Told = record { virts = c.in_ok-virts.virts; picks = c.in_ok-picks.picks } in (
      [],
      at_first known (record { stacks = c.in_ok-stacks.stacks; told = told }) c.in_ok-stacks.ensures.stacked c.in_ok-stacks.ensures.none
          (record { virts = (let long = c.in_ok-virts.ensures.len in omega (arith, long)); picks = (let long = c.in_ok-picks.ensures.len in omega (arith, long)) }),
      whole.walk,
      (λ u on. absurd on),
      none_told known steps told,
    )

pub stepped-requires-clause-at : goal.stepped-requires-clause-at
stepped-requires-clause-at c =
    let known = c.args.known.now in
    let steps = c.as_slice-step-items.result.now in
    let k = c.loop-step.step-index in
    let inv = c.loop-step.invariant in
    (inv.0, drop (k + 1) steps, inv.1, next_step known.types.now inv.0 steps k _ c.loop-step-test.true inv.2)

pub loop-step-preserved : goal.loop-step-preserved
loop-step-preserved c =
    let known = c.args.known.now in
    let steps = c.as_slice-step-items.result.now in
    let whole : IsWholeWalk known.types.now steps = subst (λ (l : List Step). IsWholeWalk known.types.now l) (sym c.as_slice-step-items.ensures.value) c.in_ok-walk.ensures in
    let k = c.loop-step.step-index in
    let inv = c.loop-step.invariant in
    let walk = next_step known.types.now inv.0 steps k _ c.loop-step-test.true inv.2 in
    let stands = slice_get-get_or steps k _ c.loop-step-test.true in (
      onward _ inv.0,
      c.in_ok-progress.ensures.at inv.0 (drop (k + 1) steps) inv.1 walk,
      walk_onward known.types.now inv.0 _ (drop (k + 1) steps) walk,
      within_stepped steps k inv.0 _ stands inv.3,
      told_stepped known c.requires.known steps whole k c.loop-step.progress c.in_ok-progress.progress inv.0 _ (drop (k + 1) steps) stands inv.4 inv.1 inv.3 walk c.in_ok-progress.ensures.told,
    )

pub returns-clause-settled : goal.returns-clause-settled
returns-clause-settled c =
    let known = c.args.known.now in
    let steps = c.as_slice-step-items.result.now in
    let whole : IsWholeWalk known.types.now steps = subst (λ (l : List Step). IsWholeWalk known.types.now l) (sym c.as_slice-step-items.ensures.value) c.in_ok-walk.ensures in
    let inv = c.loop-step.invariant in
    all_settled known c.requires.known steps whole c.loop-step.step-index c.loop-step-test.false c.loop-step.progress.told inv.1.long inv.4
