-- What stands beside a token in a list of tokens.
use Rattle.std.proofs.Common.{◌≡◌, ℕ, zero, suc, ◌<◌, ◌==◌, Bool, true, false, cond, List, [], ◌∷◌, length, get_or, nat_lt, slice_get, None, Some, unwrap_or, inl, inr, refl, ap, sym, ◌∙◌, arith}
use Rattle.std.proofs.lemmas.Bool.{ltb-true, ltb-false, eqb-true, eq-eqb, ne_eqb, cases_lt}
use Rattle.std.proofs.lemmas.Option.{slice_get-get_or}
use Rattle.std.specs.List.{Contains}
use Rattle.std.specs.List.Sorted.{IsPartitionPoint, IsNonDecreasingBy}
use Rattle.dc_base.specs.declared.names.Token.{Token}
use Rattle.cli_assembly.specs.declared.meaning.Named.{Named}
use Rattle.cli_assembly.specs.Meaning.{meaning, number_of, AreInOrder, MeaningsAreMeant}

pick : {A : Type 0} (b : Bool) (u v w : A) → b ≡ true → u ≡ w → cond b u v ≡ w
pick true u v w h e = e
pick false u v w h e = cc

skip : {A : Type 0} (b : Bool) (u v w : A) → b ≡ false → v ≡ w → cond b u v ≡ w
skip true u v w h e = cc
skip false u v w h e = e

inside : {A : Type 0} (a b : A) → Some a ≡ Some b → a ≡ b
inside a b h = ap (λ o. unwrap_or o a) h

pub found : (tokens : List (Token × Named)) (token : Token) (n : ℕ) (e : Token × Named)
    → ((k : ℕ) → k < n → number_of (get_or tokens k e) ≡ token.0 → ⊥)
    → slice_get tokens n ≡ Some e → number_of e ≡ token.0 → meaning tokens token ≡ Some e.1
found [] token n e before at is = cc
found (x ∷ tokens) token zero e before at is =
    let same : x ≡ e = inside x e at in
    pick (x.0.0 == token.0) (Some x.1) (meaning tokens token) (Some e.1) (eq-eqb x.0.0 token.0 (ap number_of same ∙ is)) (ap (λ (p : Token × Named). Some p.1) same)
found (x ∷ tokens) token (suc n) e before at is =
    skip (x.0.0 == token.0) (Some x.1) (meaning tokens token) (Some e.1) (ne_eqb x.0.0 token.0 (λ h. before 0 (omega arith) h)) (found tokens token n e (λ k lt h. before (suc k) (omega (arith, lt)) h) at is)

pub missed : (tokens : List (Token × Named)) (token : Token)
    → ((k : ℕ) (d : Token × Named) → k < length tokens → number_of (get_or tokens k d) ≡ token.0 → ⊥)
    → meaning tokens token ≡ None
missed [] token off = refl
missed (x ∷ tokens) token off =
    skip (x.0.0 == token.0) (Some x.1) (meaning tokens token) None (ne_eqb x.0.0 token.0 (λ h. off 0 x (omega arith) h)) (missed tokens token (λ k d lt h. off (suc k) d (omega (arith, lt)) h))

module _ (tokens : List (Token × Named)) (token : Token) (n : ℕ) (parts : IsPartitionPoint (λ e. nat_lt (number_of e) token.0 ≡ true) (λ e. nat_lt (number_of e) token.0 ≡ false) tokens n) where
  before : (e : Token × Named) (k : ℕ) → k < n → number_of (get_or tokens k e) ≡ token.0 → ⊥
  before e k lt h = let less = ltb-true (number_of (get_or tokens k e)) token.0 (parts.0 k e (omega arith) lt) in omega (arith, less, h)

  pub here : (e : Token × Named) → n < length tokens → ((d : Token × Named) → e ≡ get_or tokens n d) → number_of e ≡ token.0 → meaning tokens token ≡ Some e.1
  here e lt at is = found tokens token n e (before e) (slice_get-get_or tokens n e lt ∙ ap Some (sym (at e))) is

  pub nowhere : AreInOrder tokens → ((d : Token × Named) → n < length tokens → number_of (get_or tokens n d) ≡ token.0 → ⊥) → meaning tokens token ≡ None
  nowhere rise off = missed tokens token (λ k d lt h. elim (cases_lt k n) [
    | inl less ↦ before d k less h
    | inr more ↦
        elim (cases_lt n k) [
          | inl under ↦
              let step = rise n k d under lt in
              let from = ltb-false (number_of (get_or tokens n d)) token.0 (parts.1 n d (omega arith) (omega (arith, lt, more))) in
              omega (arith, step, from, h)
          | inr over ↦
              let same : k ≡ n = omega (arith, more, over) in
              off d (omega (arith, lt, same)) (ap (λ j. number_of (get_or tokens j d)) (sym same) ∙ h)
        ]
  ])

later : (x e : Token × Named) (tokens : List (Token × Named)) → Contains tokens e → Contains (x ∷ tokens) e
later x e tokens has = (suc has.0, omega (arith, has.1), has.2)

stands_at : (x : Token × Named) (tokens : List (Token × Named)) (token : Token) (named : Named) (b : Bool) → (meaning tokens token ≡ Some named → Contains tokens (token, named)) → (x.0.0 == token.0) ≡ b → cond b (Some x.1) (meaning tokens token) ≡ Some named → Contains (x ∷ tokens) (token, named)
stands_at x tokens token named true behind e h =
    let same : x ≡ (token, named) = ap (λ (i : ℕ). (record { 0 = i }, x.1)) (eqb-true x.0.0 token.0 e) ∙ ap (λ (m : Named). (token, m)) (inside x.1 named h) in
    (0, omega arith, same)
stands_at x tokens token named false behind e h = later x (token, named) tokens (behind h)

stands : (tokens : List (Token × Named)) (token : Token) (named : Named) → meaning tokens token ≡ Some named → Contains tokens (token, named)
stands [] token named h = cc
stands (x ∷ tokens) token named h = stands_at x tokens token named (x.0.0 == token.0) (stands tokens token named) refl h

pub meant : MeaningsAreMeant
meant tokens token named rise = (
  (λ has. found tokens token has.0 (token, named)
      (λ k lt h. let step = rise k has.0 (token, named) lt has.1 in omega (arith, step, h, ap number_of has.2))
      (slice_get-get_or tokens has.0 (token, named) has.1 ∙ ap Some has.2)
      refl),
  stands tokens token named,
)

pub rising : (tokens : List (Token × Named)) → AreInOrder tokens → IsNonDecreasingBy number_of tokens
rising tokens rise i j d le lt = elim (cases_lt i j) [
  | inl less ↦ let step = rise i j d less lt in omega (arith, step)
  | inr more ↦
      let same : i ≡ j = omega (arith, le, more) in
      let even : number_of (get_or tokens i d) ≡ number_of (get_or tokens j d) = ap (λ k. number_of (get_or tokens k d)) same in
      omega (arith, even)
]
