use Rattle.std.proofs.Common.{◌+◌, List, [], drop, sym, subst, arith}
use Rattle.std.proofs.lemmas.Option.{slice_get-get_or}
use Rattle.class_walk.specs.declared.walk.Step.{Step}
use Rattle.class_walk.specs.Walk.{IsWholeWalk}
use Rattle.cli_refs.proofs.Stand.{at_first, next_step}
use Rattle.cli_refs.proofs.Whole.{told_more, all_told}
use Rattle.cli_refs.proofs.meant.meant_on_walk.Goals as goal

pub loop-step-init : goal.loop-step-init
loop-step-init c =
    let known = c.args.known.now in
    let steps = c.as_slice-step-items.result.now in
    let whole : IsWholeWalk known.types.now steps = subst (λ (l : List Step). IsWholeWalk known.types.now l) (sym c.as_slice-step-items.ensures.value) c.in_ok-walk.ensures in (
      [],
      at_first known (record { stacks = c.in_ok-stacks.stacks; found = c.in_ok-found.found }) c.in_ok-stacks.ensures.stacked c.in_ok-stacks.ensures.none c.in_ok-found.ensures,
      whole.walk,
      λ j t lt. absurd (omega (arith, lt)),
    )

pub stepped-requires-clause-at : goal.stepped-requires-clause-at
stepped-requires-clause-at c =
    let known = c.args.known.now in
    let steps = c.as_slice-step-items.result.now in
    let k = c.loop-step.step-index in
    let inv = c.loop-step.invariant in
    (inv.0, drop (k + 1) steps, inv.1, next_step known.types.now inv.0 steps k _ c.loop-step-test.true inv.2)

pub loop-step-preserved : goal.loop-step-preserved
loop-step-preserved c =
    let known = c.args.known.now in
    let steps = c.as_slice-step-items.result.now in
    let k = c.loop-step.step-index in
    let inv = c.loop-step.invariant in
    let up = c.in_ok-progress.ensures.at inv.0 (drop (k + 1) steps) inv.1 (next_step known.types.now inv.0 steps k _ c.loop-step-test.true inv.2) in (
      up.0,
      up.1,
      up.2,
      told_more known steps c.loop-step.progress.found.items c.in_ok-progress.progress.found.items k _ (slice_get-get_or steps k _ c.loop-step-test.true) inv.3 c.in_ok-progress.ensures.told,
    )

pub returns : goal.returns
returns c =
    let known = c.args.known.now in
    let steps = c.as_slice-step-items.result.now in
    let whole : IsWholeWalk known.types.now steps = subst (λ (l : List Step). IsWholeWalk known.types.now l) (sym c.as_slice-step-items.ensures.value) c.in_ok-walk.ensures in
    let inv = c.loop-step.invariant in
    all_told known steps c.loop-step.progress inv.0 whole inv.1 c.loop-step.step-index c.loop-step-test.false inv.3
