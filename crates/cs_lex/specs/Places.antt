-- Inner facts of the counting of lines and columns.
use Rattle.std.specs.Prelude.{◌≡◌, ℕ, ◌+◌, ◌^◌, ◌<◌, cond, ◌==◌, List, ◌++◌, length, IsUtf8}
use Rattle.std.specs.Str.{chars}
use Rattle.cs_token.specs.Cuts.{place_after}

-- line and column behind a character
abbrev pub next_place : ℕ → ℕ → ℕ → ℕ × ℕ
next_place line column c = cond (c == 10) (line + 1, 1) (line, column + 1)

-- over this many characters line and column stay below a bound
pub record HasRoom (bound line column many : ℕ) : Type 0 where
  pub line_fits : line + many < bound
  pub column_fits : column + many < bound
  pub new_fits : 1 + many < bound

-- the place at which a rest of a text stands
pub record At (whole left : List ℕ) (place : ℕ × ℕ) : Type 0 where
  pub front : List ℕ
  pub read : whole ≡ front ++ left
  pub utf8 : IsUtf8 front
  pub placed : place ≡ place_after (1, 1) (chars front)
  pub room : HasRoom (2 ^ 32) place.0 place.1 (length left)
