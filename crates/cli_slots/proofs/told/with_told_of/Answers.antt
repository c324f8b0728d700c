use Rattle.std.proofs.Common.{Some, get_or, ap, ◌∙◌}
use Rattle.std.proofs.lemmas.List.Elements.{Contains-get_or}
use Rattle.std.proofs.lemmas.Option.{slice_get-get_or}
use Rattle.cli_slots.proofs.Under.{begins, goes_on, is_done}
use Rattle.cli_slots.proofs.told.with_told_of.Goals as goal

pub loop-m-init : goal.loop-m-init
loop-m-init c = begins c.args.known.now c.args.stacks.now.trail c.args.t.0 c.args.told c.args.own.now c.requires.long

pub loop-m-preserved : goal.loop-m-preserved
loop-m-preserved c =
    let own = c.args.own.now in
    let k = c.loop-m.m-index in
    let m = get_or own k 0 in
    let owned = (c.requires.own m).0 (Contains-get_or own k 0 c.loop-m-test.true) in
    goes_on c.args.known.now c.args.stacks.now.trail c.args.t.0 c.args.told own c.loop-m.virts.items c.loop-m.picks.items k m c.word_of-word.result
    (slice_get-get_or own k 0 c.loop-m-test.true) owned c.word_of-word.ensures c.loop-m.invariant

pub returns : goal.returns
returns c =
    let own = c.args.own.now in
    is_done c.args.known.now c.args.stacks.now.trail c.args.t.0 c.args.told own (record { virts = c.loop-m.virts; picks = c.loop-m.picks }) c.loop-m.m-index c.loop-m-test.false
    (λ m of_. let in_ = (c.requires.own m).1 of_ in (in_.0, slice_get-get_or own in_.0 m in_.1 ∙ ap Some in_.2))
    c.loop-m.invariant
