-- The rows that are reached from some tokens (ECMA-335 II.22).
use Rattle.std.specs.Prelude.{◌≡◌, ℕ, Bool, true, false, List, length, slice_index_or, Some}
use Rattle.std.specs.List.{Contains}
use Rattle.dc_base.specs.declared.names.Token.{Token}
use Rattle.cli_metadata.specs.Metadata.{Contents}
use Rattle.cli_named.specs.Rows.{AreNamed}
use Rattle.cli_named.specs.Numbers.{numbers_of, count_of, number_of}

-- the least set that has some tokens, and what the row of each token of it names
pub data IsReached (m : Contents) (roots : List Token) : Token → Type 0 where
  root : (token : Token) → Contains roots token → IsReached m roots token
  named : (by token : Token) (tokens : List Token) → IsReached m roots by → AreNamed m by tokens → Contains tokens token → IsReached m roots token

-- for each row that has a number whether its token is reached
pub record AreMarked (m : Contents) (roots : List Token) (marks : List Bool) : Type 0 where
  pub long : length marks ≡ count_of (numbers_of m)
  pub yes : (token : Token) (k : ℕ) → number_of (numbers_of m) token ≡ Some k → slice_index_or marks k false ≡ true → IsReached m roots token
  pub no : (token : Token) (k : ℕ) → number_of (numbers_of m) token ≡ Some k → slice_index_or marks k false ≡ false → IsReached m roots token → ⊥
