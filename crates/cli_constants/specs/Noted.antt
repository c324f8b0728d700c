-- Inner facts: what one row of Constant changes in the list of what fields own.
use Rattle.std.specs.Prelude.{ℕ, ◌+◌, ◌-◌, ◌/◌, ◌%◌, ◌^◌, ◌==◌, ◌&&◌, nat_lt, min, cond, List, length, slice_set, slice_index_or, Option, Some, None}
use Rattle.dc_base.specs.declared.names.Token.{Token}

-- the place, from 0, of the row of Field that the token of this number names
abbrev pub place_in : ℕ → Option ℕ
place_in t = cond ((t / 2 ^ 24 == 0x04) && nat_lt 0 (t % 2 ^ 24)) (Some (t % 2 ^ 24 - 1)) None

abbrev pub place_of : Option Token → Option ℕ
place_of None = None
place_of (Some token) = place_in token.0

-- one more than before, which stops at the end of its type, and row r
abbrev pub more : ℕ → ℕ × ℕ → ℕ × ℕ
more r before = (min (before.0 + 1) (2 ^ 32 - 1), r)

abbrev pub noted_at : ℕ → ℕ → List (ℕ × ℕ) → List (ℕ × ℕ)
noted_at r place constants =
    cond (nat_lt place (length constants)) (slice_set constants place (more r (slice_index_or constants place (0, 0)))) constants

abbrev pub noted : ℕ → Option ℕ → List (ℕ × ℕ) → List (ℕ × ℕ)
noted r None constants = constants
noted r (Some place) constants = noted_at r place constants
