use Rattle.std.proofs.Common.{◌≡◌, ◌+◌, ◌++◌, All}
use Rattle.cil_body.specs.Section.{IsClause, clauses_from}
use Rattle.cil_body.proofs.section.add_clauses.Given as goal

abbrev pub invariant-loop-i : goal.invariant-loop-i
invariant-loop-i l =
    (l.clauses.items ≡ l.fn.clauses.items ++ clauses_from l.section.is_fat l.bytes (l.section.at + 4) l.i)
    × All (IsClause l.starts l.size) (clauses_from l.section.is_fat l.bytes (l.section.at + 4) l.i)
