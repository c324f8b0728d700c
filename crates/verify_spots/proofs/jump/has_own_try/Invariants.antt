use Rattle.std.proofs.Common.{ℕ, ◌<◌, get_or}
use Rattle.cil_body.specs.declared.body.Clause.{Clause}
use Rattle.verify_spots.specs.Questions.{IsOwnTry}
use Rattle.verify_spots.proofs.jump.has_own_try.Given as goal

abbrev pub invariant-loop-number : goal.invariant-loop-number
invariant-loop-number l = (k : ℕ) → k < l.number → (d : Clause) → IsOwnTry l.regions.body.now l.clauses k (get_or l.clauses k d) l.from l.to → ⊥
