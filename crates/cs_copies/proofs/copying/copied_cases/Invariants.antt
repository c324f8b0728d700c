use Rattle.std.proofs.Common.{◌≡◌, take}
use Rattle.cs_copies.proofs.copying.copied_cases.Given as goal

abbrev pub invariant-loop-case : goal.invariant-loop-case
invariant-loop-case l = l.copy ≡ take l.case-index l.cases
