use Rattle.std.proofs.Common.{◌≡◌, ℕ, ◌<◌, Some, slice_get}
use Rattle.cil_body.specs.declared.body.Clause.{Clause}
use Rattle.cli_bodies.specs.Catches.{CoversClause}
use Rattle.cli_bodies.proofs.catches.has_cover.Given as goal

abbrev pub invariant-loop-j : goal.invariant-loop-j
invariant-loop-j l = (j : ℕ) (e : Clause) → j < l.j → slice_get l.clauses j ≡ Some e → CoversClause l.method e l.clause → ⊥
