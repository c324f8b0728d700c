use Rattle.std.proofs.Common.{◌-◌, ◌<◌, ◌^◌, length}
use Rattle.cil_body.proofs.SectionFacts.{AreRead}
use Rattle.cil_body.proofs.section.raw_clauses.Given as goal

abbrev pub invariant-loop-section : goal.invariant-loop-section
invariant-loop-section l = (l.at < 2 ^ 32) × AreRead l.bytes l.starts l.header l.at l.clauses.items

abbrev pub decreases-loop-section : goal.decreases-loop-section
decreases-loop-section l = length l.bytes - l.at
