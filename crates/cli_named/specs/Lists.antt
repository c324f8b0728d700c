-- For each such row the numbers of the rows that it names.
use Rattle.std.specs.Prelude.{◌≡◌, ℕ, List, length, slice_get, Some}
use Rattle.std.specs.List.{filter_map}
use Rattle.dc_base.specs.declared.names.Token.{Token}
use Rattle.cli_metadata.specs.Metadata.{Contents}
use Rattle.cli_named.specs.Rows.{AreNamed}
use Rattle.cli_named.specs.Numbers.{numbers_of, count_of, number_of, token_of}

-- row k names what has these numbers; a token of another table names no further row, and has none
pub record IsListed (m : Contents) (k : ℕ) (found : List ℕ) : Type 0 where
  pub tokens : List Token
  pub named : AreNamed m (token_of (numbers_of m) k) tokens
  pub numbers : found ≡ filter_map (number_of (numbers_of m)) tokens

pub record AreListed (m : Contents) (lists : List (List ℕ)) : Type 0 where
  pub long : length lists ≡ count_of (numbers_of m)
  pub each : (k : ℕ) (found : List ℕ) → slice_get lists k ≡ Some found → IsListed m k found
