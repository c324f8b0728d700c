-- The least number of which a fact holds, where there is one.
use Rattle.std.specs.Prelude.{ℕ, ◌<◌, min, Option, Some, None}
use Rattle.dc_causes.specs.First.{IsLeast}

-- this is the least number of which the fact holds, or it holds of none
abbrev pub IsLeastOf : (ℕ → Type 0) → Option ℕ → Type 0
IsLeastOf Fact None = (n : ℕ) → Fact n → ⊥
IsLeastOf Fact (Some n) = IsLeast Fact n

-- the lesser of two numbers, or the one that is there
abbrev pub lesser_of : Option ℕ → Option ℕ → Option ℕ
lesser_of None other = other
lesser_of (Some first) None = Some first
lesser_of (Some first) (Some second) = Some (min first second)

-- this is the least number of which the fact doesn't hold, or it holds of each
abbrev pub IsLeastOff : (ℕ → Type 0) → Option ℕ → Type 0
IsLeastOff Fact None = (n : ℕ) → Fact n
IsLeastOff Fact (Some n) = (Fact n → ⊥) × ((m : ℕ) → m < n → Fact m)
