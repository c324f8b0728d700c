use Rattle.std.proofs.Common.{◌+◌, List, sym, subst}
use Rattle.std.proofs.lemmas.Option.{slice_get-get_or}
use Rattle.dc_base.specs.declared.ty.Ty.{Ty}
use Rattle.cli_types.proofs.All.{IsSoFar, at_first, one_more, none_said, all_said}
use Rattle.cli_types.proofs.meaning.all_types.Goals as goal

pub loop-raw-init : goal.loop-raw-init
loop-raw-init c = rw c.new-found.ensures.items (at_first c.args.types.now c.args.raws.now)

pub loop-raw-preserved : goal.loop-raw-preserved
loop-raw-preserved c =
    let raws = c.args.raws.now in
    let k = c.loop-raw.raw-index in
    subst (λ (tys : List Ty). IsSoFar c.args.types.now raws tys (k + 1)) (sym c.in_ok-push-in-Some.ensures.items)
    (one_more c.args.types.now raws k _ c.in-Some.ty c.loop-raw.found.items (slice_get-get_or raws k _ c.loop-raw-test.true) (sym c.in-Some.ensures) c.loop-raw.invariant)

pub returns-in-None : goal.returns-in-None
returns-in-None c =
    let raws = c.args.raws.now in
    let k = c.loop-raw.raw-index in
    none_said c.args.types.now raws k _ c.loop-raw.found.items (slice_get-get_or raws k _ c.loop-raw-test.true) (sym c.in-None.ensures) c.loop-raw.invariant

pub returns : goal.returns
returns c = all_said c.args.types.now c.args.raws.now c.loop-raw.raw-index c.loop-raw.found.items c.loop-raw-test.false c.loop-raw.invariant
