-- What tokens mean (ECMA-335 III.1.9): a list of tokens, each with what it stands for.
use Rattle.std.specs.Prelude.{◌≡◌, ◌↔◌, ℕ, ◌<◌, ◌==◌, List, [], ◌∷◌, Option, Some, None, length, slice_index_or, Contains, if◌then◌else◌}
use Rattle.dc_base.specs.declared.names.Token.{Token}
use Rattle.cli_assembly.specs.declared.meaning.Named.{Named}

-- what stands beside the token, where it first occurs
abbrev pub meaning : List (Token × Named) → Token → Option Named
meaning [] token = None
meaning (e ∷ tokens) token = if e.0.0 == token.0 then Some e.1 else meaning tokens token

abbrev pub number_of : Token × Named → ℕ
number_of e = e.0.0

-- each token is below those behind it
abbrev pub AreInOrder : List (Token × Named) → Type 0
AreInOrder tokens =
    (i j : ℕ) (d : Token × Named) → i < j → j < length tokens → number_of (slice_index_or tokens i d) < number_of (slice_index_or tokens j d)

-- the token stands in the list, beside this
abbrev pub Means : List (Token × Named) → Token → Named → Type 0
Means tokens token named = Contains tokens (token, named)

-- among tokens in order, one means what stands beside it, and nothing else
abbrev pub MeaningsAreMeant : Type 0
MeaningsAreMeant =
    (tokens : List (Token × Named)) (token : Token) (named : Named) → AreInOrder tokens → Means tokens token named ↔ (meaning tokens token ≡ Some named)
