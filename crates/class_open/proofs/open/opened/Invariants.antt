use Rattle.class_open.specs.Stacks.{AreStacked}
use Rattle.class_open.proofs.Opening.{AreOpening}
use Rattle.class_open.proofs.open.opened.Given as goal

abbrev pub invariant-loop-m : goal.invariant-loop-m
invariant-loop-m l = AreStacked l.signs l.state.tops.items l.state.below.items l.state.trail × AreOpening l.picks l.own l.m-index l.fn.state.trail l.state.trail
