-- Clauses that are ranges of the code.
use Rattle.std.specs.Prelude.{ℕ, ◌+◌, ◌^◌, ◌<◌, ◌≤◌, length, All}
use Rattle.cil_body.specs.declared.body.Body.{Body}
use Rattle.cil_body.specs.declared.body.Clause.{Clause}

-- the clause has a try and a handler, neither of which is empty, within `size` bytes of code
pub record IsRange (size : ℕ) (c : Clause) : Type 0 where
  pub some_try : 0 < c.try_len
  pub try_within : c.try_at + c.try_len ≤ size
  pub some_handler : 0 < c.handler_len
  pub handler_within : c.handler_at + c.handler_len ≤ size

-- the clauses are ranges of the code, and not more than there may be
pub record HasRanges (body : Body) : Type 0 where
  pub ranges : All (IsRange body.size) body.clauses
  pub few : length body.clauses < 2 ^ 30
