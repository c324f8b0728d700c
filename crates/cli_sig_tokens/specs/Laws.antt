-- What follows from the definitions.
use Rattle.std.specs.Prelude.{◌≡◌, ℕ, List}
use Rattle.dc_base.specs.declared.names.Token.{Token}
use Rattle.cli_metadata.specs.Metadata.{Contents}
use Rattle.cli_signature.specs.declared.kind.Kind.{Kind}
use Rattle.cli_sig_tokens.specs.Tokens.{AreTokens, AreSpecTokens}

-- the signature of a kind at a place names one list of tokens
abbrev pub TokensAreOne : Type 0
TokensAreOne = (m : Contents) (kind : Kind) (i : ℕ) (a b : List Token) → AreTokens m kind i a → AreTokens m kind i b → a ≡ b

-- and so does the type by itself
abbrev pub SpecTokensAreOne : Type 0
SpecTokensAreOne = (m : Contents) (i : ℕ) (a b : List Token) → AreSpecTokens m i a → AreSpecTokens m i b → a ≡ b
