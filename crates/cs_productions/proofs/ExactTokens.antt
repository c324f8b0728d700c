-- Single tokens are exact.
use Rattle.std.proofs.Common.{◌≡◌, ℕ, ◌-◌, true, false, [], ◌∷◌, refl, codes}
use Rattle.cs_token.specs.Placed.{Placed as Token}
use Rattle.cs_token.specs.declared.lexeme.Lexeme.{Lexeme}
use Rattle.cs_token.specs.declared.lexeme.Lexeme.TheVariants as lexeme
use Rattle.cs_grammar.specs.Kinds.{has}
use Rattle.cs_grammar.specs.Exact.{Exact}
use Rattle.cs_grammar.proofs.Basics.{exact_one}
use Rattle.cs_productions.specs.Kinds.{names, simple_kinds}
use Rattle.cs_productions.specs.Tokens.{kind, sign, place, spot_of, name_text, any_name, text_of, name_of, simple, simple_of}

abbrev pub sample : Lexeme → Token
sample l = record { lexeme = l; line = 0; column = 0 }

-- signs and keywords have kinds from 10 on
abbrev pub sample_of : ℕ → Token
sample_of k = sample (lexeme.Sign (k - 10))

pub exact_sign : (k : ℕ) → has (k ∷ []) (kind (sample_of k)) ≡ true → Exact kind (sign k) (k ∷ []) [] false
exact_sign k is = exact_one (k ∷ []) (λ _. tt) (sample_of k) is

pub exact_place : (k : ℕ) → has (k ∷ []) (kind (sample_of k)) ≡ true → Exact kind (place k) (k ∷ []) [] false
exact_place k is = exact_one (k ∷ []) spot_of (sample_of k) is

pub exact_name_text : Exact kind name_text names [] false
exact_name_text = exact_one names text_of (sample (lexeme.Name [])) refl

pub exact_any_name : Exact kind any_name names [] false
exact_any_name = exact_one names name_of (sample (lexeme.Name [])) refl

pub exact_simple : Exact kind simple simple_kinds [] false
exact_simple = exact_one simple_kinds simple_of (sample (lexeme.Name [])) refl

-- the name `global`
abbrev pub global_sample : Token
global_sample = sample (lexeme.Name (codes "global"))
