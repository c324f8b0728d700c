use Rattle.std.proofs.lemmas.Option.{slice_get-get_or}
use Rattle.class_implemented.proofs.Open.{within_begins, within_more, within_ends}
use Rattle.class_implemented.proofs.chain.open_in.Goals as goal

pub loop-m-init : goal.loop-m-init
loop-m-init c = within_begins c.args.known.now c.args.c.0 c.args.i.0 c.of_owner-own.result.now c.of_owner-own.ensures.exact

pub loop-m-preserved : goal.loop-m-preserved
loop-m-preserved c =
    rw c.lesser-least.ensures
    (within_more c.args.known.now c.args.c.0 c.args.i.0 c.of_owner-own.result.now c.of_owner-own.ensures.exact c.loop-m.m-index _ c.loop-m.least c.open_one.result
    (slice_get-get_or c.of_owner-own.result.now c.loop-m.m-index _ c.loop-m-test.true) c.loop-m.invariant c.open_one.ensures)

pub returns : goal.returns
returns c = within_ends c.args.known.now c.args.c.0 c.args.i.0 c.of_owner-own.result.now c.of_owner-own.ensures.exact c.loop-m.m-index c.loop-m.least c.loop-m-test.false c.loop-m.invariant
