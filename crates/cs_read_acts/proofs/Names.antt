-- Names as expressions.
use Rattle.std.proofs.Common.{◌≡◌, ℕ, ◌+◌, ◌≤◌, true, false, List, [], ◌∷◌, refl, sym, subst, Ok, ne_eqb, arith}
use Rattle.std.specs.Prelude.{◌==◌}
use Rattle.cs_grammar.specs.Kinds.{has}
use Rattle.cs_grammar.specs.Grammar.{read_one}
use Rattle.cs_grammar.proofs.Basics.{one_sound}
use Rattle.cs_grammar.proofs.Sets.{is_not}
use Rattle.cs_token.specs.Placed.{Placed as Token}
use Rattle.cs_token.specs.Tokens.{kind_of}
use Rattle.cs_token.specs.declared.lexeme.Lexeme.{Lexeme}
use Rattle.cs_token.specs.declared.lexeme.Lexeme.TheVariants as lexeme
use Rattle.cs_token.specs.declared.lexeme.Suffix.TheVariants as suffix
use Rattle.cs_tree.specs.declared.types.Spot.{Spot}
use Rattle.cs_tree.specs.declared.forms.Form.TheVariants as form
use Rattle.cs_productions.specs.Tokens.{kind, spot_of, text_of_lexeme, leaf, simple_form, simple_of}
use Rattle.cs_productions.specs.Primaries.{global_leaf}
use Rattle.cs_statements.specs.Kinds.{name_kinds}

-- no sign and no keyword is a name
no_name : (m k : ℕ) → 8 ≤ m → has name_kinds (m + k) ≡ false
no_name m k le =
    let a : (0 == m + k) ≡ false = ne_eqb 0 (m + k) (λ e. omega arith) in
    let b : (5 == m + k) ≡ false = ne_eqb 5 (m + k) (λ e. omega arith) in
    let c : (6 == m + k) ≡ false = ne_eqb 6 (m + k) (λ e. omega arith) in
    let d : (7 == m + k) ≡ false = ne_eqb 7 (m + k) (λ e. omega arith) in
    rw (a, b, c, d) refl

-- a token of the kinds of names is one
by_lexeme : (l : Lexeme) (s : Spot) → has name_kinds (kind_of l) ≡ true → leaf (simple_form l s) s ≡ leaf (form.Name s (text_of_lexeme l)) s
by_lexeme (lexeme.Name t) s h = refl
by_lexeme (lexeme.Keyword k) s h = absurd (is_not (has name_kinds (60 + k)) h (no_name 60 k (omega arith)))
by_lexeme (lexeme.Number n suffix.Plain) s h = absurd (is_not false h refl)
by_lexeme (lexeme.Number n suffix.Unsigned) s h = absurd (is_not false h refl)
by_lexeme (lexeme.Number n suffix.Long) s h = absurd (is_not false h refl)
by_lexeme (lexeme.Number n suffix.UnsignedLong) s h = absurd (is_not false h refl)
by_lexeme (lexeme.Char u) s h = absurd (is_not false h refl)
by_lexeme (lexeme.Literal u) s h = absurd (is_not false h refl)
by_lexeme (lexeme.Sign k) s h = absurd (is_not (has name_kinds (10 + k)) h (no_name 10 k (omega arith)))

pub plain_name : (t : Token) → has name_kinds (kind t) ≡ true → simple_of t ≡ global_leaf t
plain_name t h = by_lexeme t.lexeme (spot_of t) h

-- so is the token that is read where a name but `global` is wanted
pub plain_taken : (ts : List Token) (t : Token) (rest : List Token) → read_one kind name_kinds (λ u. u) ts ≡ Ok (t, rest) → simple_of t ≡ global_leaf t
plain_taken [] t rest e = cc
plain_taken (u ∷ us) t rest e =
    let d = one_sound kind name_kinds (λ v. v) (u ∷ us) t rest e in
    subst (λ (v : Token). simple_of v ≡ global_leaf v) (sym d.1) (plain_name u d.0)
