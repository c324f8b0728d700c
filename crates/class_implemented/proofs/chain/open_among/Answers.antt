use Rattle.std.proofs.lemmas.Option.{slice_get-get_or}
use Rattle.class_implemented.proofs.Open.{among_more, among_ends}
use Rattle.class_implemented.proofs.chain.open_among.Goals as goal

pub loop-i-preserved : goal.loop-i-preserved
loop-i-preserved c =
    rw c.lesser-least.ensures
    (among_more c.args.known.now c.args.c.0 c.args.interfaces.now c.loop-i.i-index _ c.loop-i.least c.open_anew.result
    (slice_get-get_or c.args.interfaces.now c.loop-i.i-index _ c.loop-i-test.true) c.loop-i.invariant c.open_anew.ensures)

pub returns : goal.returns
returns c = among_ends c.args.known.now c.args.c.0 c.args.interfaces.now c.loop-i.i-index c.loop-i.least c.loop-i-test.false c.loop-i.invariant
