use Rattle.std.proofs.Common.{◌≡◌, take, map, All}
use Rattle.cil_body.specs.Section.{IsTaken}
use Rattle.cil_body.specs.Body.{clause_of}
use Rattle.cil_body.proofs.body.clauses.Given as goal

abbrev pub invariant-loop-clause : goal.invariant-loop-clause
invariant-loop-clause l =
    All IsTaken (take l.clause-index l.raw) × (l.clauses.items ≡ map clause_of (take l.clause-index l.raw))
