-- What follows from the definitions.
use Rattle.std.specs.Prelude.{◌≡◌, ℕ, ◌<◌, List, Some}
use Rattle.dc_base.specs.declared.names.Token.{Token}
use Rattle.cli_metadata.specs.Metadata.{Contents}
use Rattle.cli_named.specs.Rows.{AreNamed}
use Rattle.cli_named.specs.Numbers.{numbers_of, count_of, number_of, token_of}

-- the row of a token names one list of tokens
abbrev pub NamesAreOne : Type 0
NamesAreOne = (m : Contents) (token : Token) (a b : List Token) → AreNamed m token a → AreNamed m token b → a ≡ b

-- a token whose row names tokens has a number
abbrev pub NamesHaveNumbers : Type 0
NamesHaveNumbers = (m : Contents) (token : Token) (tokens : List Token) → AreNamed m token tokens → (k : ℕ) × (number_of (numbers_of m) token ≡ Some k)

-- the token of the number of a token is that token
abbrev pub NumbersAreOnes : Type 0
NumbersAreOnes = (m : Contents) (token : Token) (k : ℕ) → number_of (numbers_of m) token ≡ Some k → token_of (numbers_of m) k ≡ token

-- numbers are below the count of rows that have one
abbrev pub NumbersAreBelow : Type 0
NumbersAreBelow = (m : Contents) (token : Token) (k : ℕ) → number_of (numbers_of m) token ≡ Some k → k < count_of (numbers_of m)
