-- Inner facts: the least offset so far, and the first failure so far.
use Rattle.std.specs.Prelude.{ℕ, ◌<◌, ◌≤◌, Option, Some, None, min, nat_le, if◌then◌else◌}
use Rattle.cli_conditions.specs.declared.condition.Condition.{Condition}
use Rattle.cli_bodies.specs.declared.method.Failure.{Failure}

-- the least of the offsets so far and this one
abbrev pub sooner : Option ℕ → ℕ → Option ℕ
sooner None offset = Some offset
sooner (Some other) offset = Some (min other offset)

-- the earlier of the first failure so far and one of a later condition
abbrev pub one_of : Failure → Failure → Failure
one_of first new = if nat_le first.offset new.offset then first else new

abbrev pub among : Option Failure → Failure → Option Failure
among None new = Some new
among (Some first) new = Some (one_of first new)

abbrev pub earlier : Option Failure → Condition → Option ℕ → Option Failure
earlier first condition None = first
earlier first condition (Some offset) = among first (record { condition = condition; offset = offset })

-- this is the least offset of the first so many places that are off
abbrev pub IsLeastSoFar : (ℕ → ℕ → Type 0) → ℕ → Option ℕ → Type 0
IsLeastSoFar Off count None = (k offset : ℕ) → k < count → Off k offset → ⊥
IsLeastSoFar Off count (Some least) =
    ((k : ℕ) × (k < count) × Off k least) × ((k offset : ℕ) → k < count → Off k offset → least ≤ offset)
