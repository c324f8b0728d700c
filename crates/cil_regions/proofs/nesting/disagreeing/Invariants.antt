use Rattle.cil_regions.specs.Laid.{IsLeastDisagreement}
use Rattle.cil_regions.proofs.nesting.disagreeing.Given as goal

abbrev pub invariant-loop-i : goal.invariant-loop-i
invariant-loop-i l = IsLeastDisagreement l.clauses l.firsts l.tries l.handlers l.i l.least
