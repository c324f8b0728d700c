use Rattle.std.proofs.Common.{arith}
use Rattle.cil_regions.proofs.Chain.{no_span}
use Rattle.cil_regions.proofs.Crossing.{laminar_more, least_crossing}
use Rattle.cil_regions.proofs.overlap.first_crossed.Goals as goal

pub is_crossed-requires-clause-next : goal.is_crossed-requires-clause-next
is_crossed-requires-clause-next c = c.requires.outlasting.each c.loop-i.i (omega arith) c.loop-i-test.true

pub returns-then-is_crossed : goal.returns-then-is_crossed
returns-then-is_crossed c =
    least_crossing c.args.spans.now c.requires.ordered c.loop-i.i no_span c.loop-i-test.true c.loop-i.invariant c.if-is_crossed.ensures

pub loop-i-preserved : goal.loop-i-preserved
loop-i-preserved c =
    laminar_more c.args.spans.now c.requires.ordered c.loop-i.i no_span c.loop-i-test.true c.loop-i.invariant c.if-is_crossed.ensures
