use Rattle.std.proofs.Common.{sym}
use Rattle.cil_regions.proofs.Chain.{no_span}
use Rattle.cil_regions.proofs.Crossing.{crossed_test, crossed_never}
use Rattle.cil_regions.proofs.overlap.is_crossed.Goals as goal

pub returns-in-Some : goal.returns-in-Some
returns-in-Some c =
    let there = c.in-Some.ensures.lookup.3 in
    crossed_test c.args.spans.now c.requires.ordered c.args.i c.args.next c.requires.next c.in-Some.other.now no_span there.0 (sym (there.1 no_span))

pub returns-in-None : goal.returns-in-None
returns-in-None c =
    crossed_never c.args.spans.now c.requires.ordered c.args.i c.args.next c.requires.next c.in-None.ensures.lookup.3
