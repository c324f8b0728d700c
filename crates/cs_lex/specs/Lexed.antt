-- A text as the list of its tokens, or the first place where none stands (ECMA-334, 6.3 and 6.4).
use Rattle.std.specs.Prelude.{◌≡◌, ◌↔◌, ℕ, List, [], take, IsTrue}
use Rattle.std.specs.Str.{chars, IsValidUpTo}
use Rattle.cs_token.specs.declared.tokens.Token.{Token}
use Rattle.cs_token.specs.Cuts.{place_after, place_of, AreTokens, AreTokensUpTo}
use Rattle.cs_lex.specs.declared.cuts.Tokens.{Tokens}
use Rattle.cs_lex.specs.declared.whole.Lexed.{Lexed}
use Rattle.cs_lex.specs.declared.whole.LexFault.{LexFault}

-- the tokens at the front of a text, with the place where they end: the text's end, or the first place where none stands
pub record IsCut (text : List ℕ) (cut : Tokens) : Type 0 where
  pub rest : List ℕ
  pub cuts : AreTokensUpTo text cut.tokens rest
  pub line : cut.end.line ≡ (place_of text rest).0
  pub column : cut.end.column ≡ (place_of text rest).1
  pub whole : IsTrue cut.end.whole ↔ (rest ≡ [])

-- the tokens of a whole text, and the place of its end
pub record IsLexed (text : List ℕ) (lexed : Lexed) : Type 0 where
  pub tokens : AreTokens text lexed.tokens
  pub line : lexed.line ≡ (place_of text []).0
  pub column : lexed.column ≡ (place_of text []).1

-- a fault is at this place
abbrev pub IsPlace : LexFault → ℕ × ℕ → Type 0
IsPlace fault place = (fault.line ≡ place.0) × (fault.column ≡ place.1)

-- tokens go up to this place, and there none stands, nor is it the text's end
pub record Stops (text : List ℕ) (fault : LexFault) : Type 0 where
  pub tokens : List Token
  pub rest : List ℕ
  pub cuts : AreTokensUpTo text tokens rest
  pub more : rest ≡ [] → ⊥
  pub placed : IsPlace fault (place_of text rest)

-- The place of the first byte that is part of no character: that behind the longest front which is text in UTF-8.
pub record IsBroken (bytes : List ℕ) (fault : LexFault) : Type 0 where
  pub valid : ℕ
  pub longest : IsValidUpTo bytes valid
  pub placed : IsPlace fault (place_after (1, 1) (chars (take valid bytes)))

-- a text has one list of tokens, or one place where none stands, and never both
pub record HasOneAnswer : Type 0 where
  pub one_list : (text : List ℕ) (ts us : List Token) → AreTokens text ts → AreTokens text us → ts ≡ us
  pub one_stop : (text : List ℕ) (f g : LexFault) → Stops text f → Stops text g → f ≡ g
  pub not_both : (text : List ℕ) (ts : List Token) (f : LexFault) → AreTokens text ts → Stops text f → ⊥
