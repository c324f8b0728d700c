-- References by their types, one by one.
use Rattle.std.proofs.Common.{◌≡◌, ◌<◌, ℕ, zero, suc, ◌+◌, true, false, eqb, Option, Some, None, List, [], ◌∷◌, ◌++◌, length, replicate, set, inl, inr, refl, sym, ap, subst, ◌∙◌, arith}
use Rattle.std.proofs.Math.ListN.{length-set}
use Rattle.std.proofs.lemmas.Bool.{cases_lt, eqb-true, eqb-false}
use Rattle.std.proofs.lemmas.List.{length-append, length-replicate}
use Rattle.std.proofs.lemmas.Option.{slice_get_within}
use Rattle.std.specs.List.{slice_get}
use Rattle.class_chains.proofs.Marks.{set_at}
use Rattle.class_keys.proofs.Items.{one_item, item_kept, last_item}
use Rattle.class_open.proofs.Put.{set_other}
use Rattle.cli_refs.specs.declared.key.Sought.{Sought}
use Rattle.cli_refs.specs.Asked.{Asks, IsLastOf, no_more, one_more, AreAsked}

none_there : (n s : ℕ) (top : Option ℕ) → slice_get (replicate n None) s ≡ Some top → top ≡ None
none_there zero s top h = let e : None ≡ Some top = h in absurd cc
none_there (suc n) zero top h = let e : Some None ≡ Some top = h in cc
none_there (suc n) (suc s) top h = none_there n s top h

module _ (sought : List Sought) where
  pub none_asked : (count : ℕ) (last before : List (Option ℕ)) → last ≡ replicate count None → before ≡ [] → AreAsked sought count 0 last before
  none_asked count last before none empty = record {
    wide = ap length none ∙ length-replicate count None;
    long = ap length empty;
    lasts = λ t o at.
        let is : o ≡ None = none_there count t o (ap (λ (l : List (Option ℕ)). slice_get l t) (sym none) ∙ at) in
        subst (λ (x : Option ℕ). IsLastOf sought before t 0 x) (sym is) (no_more 0 (λ p lt. absurd (omega (arith, lt))));
  }

  -- what leads from a reference is not changed by a further one
  last_kept : (before : List (Option ℕ)) (x : Option ℕ) (t k : ℕ) (o : Option ℕ) → IsLastOf sought before t k o → IsLastOf sought (before ++ (x ∷ [])) t k o
  last_kept before x t k o (no_more n none) = no_more n none
  last_kept before x t k o (one_more n p q lt asks none at rest) = one_more n p q lt asks none (item_kept before (x ∷ []) p q at) (last_kept before x t p q rest)

  -- a reference that names another type
  last_past : (before : List (Option ℕ)) (t k : ℕ) (o : Option ℕ) → IsLastOf sought before t k o → (Asks sought t k → ⊥) → IsLastOf sought before t (k + 1) o
  last_past before t k o (no_more n none) off = no_more (n + 1) (λ p lt asks. elim (cases_lt p n) [
    | inl less ↦ none p less asks
    | inr ge ↦ off (subst (λ (i : ℕ). Asks sought t i) (let same : p ≡ n = omega (arith, ge, lt) in same) asks)
  ])
  last_past before t k o (one_more n p q lt asks none at rest) off = one_more (n + 1) p q (omega (arith, lt)) asks (λ r up down mine. elim (cases_lt r n) [
    | inl less ↦ none r up less mine
    | inr ge ↦ off (subst (λ (i : ℕ). Asks sought t i) (let same : r ≡ n = omega (arith, ge, down) in same) mine)
  ]) at rest

  module _ (count k : ℕ) (last before : List (Option ℕ)) (s : Sought) (stands : slice_get sought k ≡ Some s) (are : AreAsked sought count k last before) where
    one_type : (t : ℕ) → Asks sought t k → t ≡ s.parent.0
    one_type t asks = sym asks.2 ∙ ap (λ (x : Sought). x.parent.0) (one_item sought k asks.0 s asks.1 stands)

    pub asked_more : (u : ℕ) (top : Option ℕ) → u ≡ s.parent.0 → slice_get last u ≡ Some top → AreAsked sought count (k + 1) (set last u (Some k)) (before ++ (top ∷ []))
    asked_more u top is_ at = record {
      wide = length-set last u (Some k) ∙ are.wide;
      long = length-append before (top ∷ []) ∙ ap (λ (n : ℕ). n + 1) are.long;
      lasts = λ t o there. elim (eqb u t) as (λ b. eqb u t ≡ b → IsLastOf sought (before ++ (top ∷ [])) t (k + 1) o) [
        | true ↦ λ e.
            let same = eqb-true u t e in
            let here : slice_get (set last u (Some k)) u ≡ Some o = ap (λ (n : ℕ). slice_get (set last u (Some k)) n) same ∙ there in
            let is : Some k ≡ o = one_item (set last u (Some k)) u (Some k) o (set_at last u (Some k) (slice_get_within last u top at)) here in
            subst (λ (x : Option ℕ). IsLastOf sought (before ++ (top ∷ [])) t (k + 1) x) is
            (one_more (k + 1) k top (omega arith) (s, stands, sym is_ ∙ same) (λ q up down. absurd (omega (arith, up, down)))
            (ap (λ (n : ℕ). slice_get (before ++ (top ∷ [])) n) (sym are.long) ∙ last_item before top)
            (subst (λ (n : ℕ). IsLastOf sought (before ++ (top ∷ [])) n k top) same (last_kept before top u k top (are.lasts u top at))))
        | false ↦ λ e.
            let off = eqb-false u t e in
            last_past (before ++ (top ∷ [])) t k o (last_kept before top t k o (are.lasts t o (sym (set_other last u t (Some k) off) ∙ there))) (λ asks. off (is_ ∙ sym (one_type t asks)))
      ] refl;
    }

    pub unasked_more : (x : Option ℕ) → (s.parent.0 < count → ⊥) → AreAsked sought count (k + 1) last (before ++ (x ∷ []))
    unasked_more x off = record {
      wide = are.wide;
      long = length-append before (x ∷ []) ∙ ap (λ (n : ℕ). n + 1) are.long;
      lasts = λ t o there.
          last_past (before ++ (x ∷ [])) t k o (last_kept before x t k o (are.lasts t o there)) (λ asks.
          let lt = slice_get_within last t o there in
          let wide = are.wide in
          let same = one_type t asks in
          off (omega (arith, lt, wide, same)));
    }
