-- A text is cut into tokens in one way.
use Rattle.std.proofs.Common.{◌≡◌, ℕ, false, List, [], ◌∷◌, Option, Some, None, refl, sym, ◌∙◌, ap, subst}
use Rattle.cs_token.specs.declared.lexeme.Lexeme.{Lexeme}
use Rattle.cs_token.specs.declared.tokens.Token.{Token}
use Rattle.cs_token.specs.Words.{behind_gap}
use Rattle.cs_token.specs.Tokens.{token_at}
use Rattle.cs_token.specs.Cuts.{place, Cuts}

some : Lexeme × List ℕ → Option (Lexeme × List ℕ)
some p = Some p

same_some : (p q : Lexeme × List ℕ) → some p ≡ some q → p ≡ q
unfolding some
same_some p q e = cc

not_none : (r : Option (Lexeme × List ℕ)) (p : Lexeme × List ℕ) → r ≡ None → r ≡ some p → ⊥
unfolding some
not_none r p e h = cc

made : Lexeme → ℕ × ℕ → Token
made l p = record { lexeme = l; line = p.0; column = p.1 }

same_token : (t u : Token) → t.lexeme ≡ u.lexeme → place t ≡ place u → t ≡ u
unfolding made
same_token t u e h = ap (λ l. made l (place t)) e ∙ ap (made u.lexeme) h

pub one_cut_of : (whole left : List ℕ) (ts us : List Token) (rest other : List ℕ) → Cuts whole left ts rest → token_at rest ≡ None → Cuts whole left us other → token_at other ≡ None → (ts ≡ us) × (rest ≡ other)
unfolding some
one_cut_of whole left [] [] rest other c e d h = (refl, c ∙ sym d)
one_cut_of whole left [] (u ∷ us) rest other c e d h = absurd (not_none (token_at (behind_gap false left)) (u.lexeme, d.0) (ap token_at (sym c) ∙ e) d.1)
one_cut_of whole left (t ∷ ts) [] rest other c e d h = absurd (not_none (token_at (behind_gap false left)) (t.lexeme, c.0) (ap token_at (sym d) ∙ h) c.1)
one_cut_of whole left (t ∷ ts) (u ∷ us) rest other c e d h =
    let same = same_some (t.lexeme, c.0) (u.lexeme, d.0) (sym c.1 ∙ d.1) in
    let token = same_token t u (ap (λ p. p.0) same) (c.2 ∙ sym d.2) in
    let more = one_cut_of whole c.0 ts us rest other c.3 e (subst (λ (m : List ℕ). Cuts whole m us other) (sym (ap (λ p. p.1) same)) d.3) h in
    (ap (λ x. x ∷ ts) token ∙ ap (λ xs. u ∷ xs) more.0, more.1)
