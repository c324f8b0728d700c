-- Explicit implementations by their types, one by one.
use Rattle.std.proofs.Common.{◌≡◌, ◌<◌, ℕ, zero, suc, ◌+◌, true, false, eqb, Option, Some, None, List, [], ◌∷◌, ◌++◌, length, replicate, set, inl, inr, refl, sym, ap, subst, ◌∙◌, arith}
use Rattle.std.proofs.Math.ListN.{length-set}
use Rattle.std.proofs.lemmas.Bool.{cases_lt, eqb-true, eqb-false}
use Rattle.std.proofs.lemmas.List.{length-append, length-replicate}
use Rattle.std.proofs.lemmas.Option.{slice_get_within}
use Rattle.std.specs.List.{slice_get}
use Rattle.dc_base.specs.declared.names.MemberId.{MemberId}
use Rattle.dc_base.specs.declared.names.TypeId.{TypeId}
use Rattle.class_chains.proofs.Marks.{set_at}
use Rattle.class_keys.proofs.Items.{one_item, item_kept, last_item}
use Rattle.class_open.proofs.Put.{set_other}
use Rattle.class_rows.specs.declared.row.MemberRow.{MemberRow}
use Rattle.class_rows.specs.Members.{IsOf}
use Rattle.class_implemented.specs.Explicit.{OwnsPair, IsLastOf, no_more, one_more, AreByType}

none_there : (n s : ℕ) (top : Option ℕ) → slice_get (replicate n None) s ≡ Some top → top ≡ None
none_there zero s top h = let e : None ≡ Some top = h in absurd cc
none_there (suc n) zero top h = let e : Some None ≡ Some top = h in cc
none_there (suc n) (suc s) top h = none_there n s top h

module _ (members : List MemberRow) (explicit : List (MemberId × MemberId)) where
  pub none_by : (count : ℕ) (last before : List (Option ℕ)) → last ≡ replicate count None → before ≡ [] → AreByType members explicit count 0 last before
  none_by count last before none empty = record {
    wide = ap length none ∙ length-replicate count None;
    long = ap length empty;
    lasts = λ t o at.
        let is : o ≡ None = none_there count t o (ap (λ (l : List (Option ℕ)). slice_get l t) (sym none) ∙ at) in
        subst (λ (x : Option ℕ). IsLastOf members explicit before t 0 x) (sym is) (no_more 0 (λ p lt. absurd (omega (arith, lt))));
  }

  -- what leads from a pair is not changed by a further one
  last_kept : (before : List (Option ℕ)) (x : Option ℕ) (t k : ℕ) (o : Option ℕ) → IsLastOf members explicit before t k o → IsLastOf members explicit (before ++ (x ∷ [])) t k o
  last_kept before x t k o (no_more n none) = no_more n none
  last_kept before x t k o (one_more n p q lt owned none at rest) = one_more n p q lt owned none (item_kept before (x ∷ []) p q at) (last_kept before x t p q rest)

  -- a pair of another type
  last_past : (before : List (Option ℕ)) (t k : ℕ) (o : Option ℕ) → IsLastOf members explicit before t k o → (OwnsPair members explicit t k → ⊥) → IsLastOf members explicit before t (k + 1) o
  last_past before t k o (no_more n none) off = no_more (n + 1) (λ p lt owned. elim (cases_lt p n) [
    | inl less ↦ none p less owned
    | inr ge ↦ off (subst (λ (i : ℕ). OwnsPair members explicit t i) (let same : p ≡ n = omega (arith, ge, lt) in same) owned)
  ])
  last_past before t k o (one_more n p q lt owned none at rest) off = one_more (n + 1) p q (omega (arith, lt)) owned (λ r up down mine. elim (cases_lt r n) [
    | inl less ↦ none r up less mine
    | inr ge ↦ off (subst (λ (i : ℕ). OwnsPair members explicit t i) (let same : r ≡ n = omega (arith, ge, down) in same) mine)
  ]) at rest

  module _ (count k : ℕ) (last before : List (Option ℕ)) (pair : MemberId × MemberId) (stands : slice_get explicit k ≡ Some pair) (are : AreByType members explicit count k last before) where
    one_owner : (t u : ℕ) → IsOf members u pair.0.0 → OwnsPair members explicit t k → t ≡ u
    one_owner t u of_ owned =
        let e = one_item explicit k owned.0 pair owned.1 stands in
        let mine = subst (λ (q : MemberId × MemberId). IsOf members t q.0.0) e owned.2 in
        let same = one_item members pair.0.0 mine.row of_.row mine.stands of_.stands in
        ap (λ (o : TypeId). o.0) (sym mine.is ∙ ap (λ (r : MemberRow). r.owner) same ∙ of_.is)

    pub owned_more : (u : ℕ) (top : Option ℕ) → u < count → IsOf members u pair.0.0 → slice_get last u ≡ Some top → AreByType members explicit count (k + 1) (set last u (Some k)) (before ++ (top ∷ []))
    owned_more u top lt of_ at = record {
      wide = length-set last u (Some k) ∙ are.wide;
      long = length-append before (top ∷ []) ∙ ap (λ (n : ℕ). n + 1) are.long;
      lasts = λ t o there. elim (eqb u t) as (λ b. eqb u t ≡ b → IsLastOf members explicit (before ++ (top ∷ [])) t (k + 1) o) [
        | true ↦ λ e.
            let same = eqb-true u t e in
            let here : slice_get (set last u (Some k)) u ≡ Some o = ap (λ (n : ℕ). slice_get (set last u (Some k)) n) same ∙ there in
            let is : Some k ≡ o = one_item (set last u (Some k)) u (Some k) o (set_at last u (Some k) (slice_get_within last u top at)) here in
            subst (λ (x : Option ℕ). IsLastOf members explicit (before ++ (top ∷ [])) t (k + 1) x) is
            (one_more (k + 1) k top (omega arith) (pair, stands, subst (λ (n : ℕ). IsOf members n pair.0.0) same of_) (λ q up down. absurd (omega (arith, up, down)))
            (ap (λ (n : ℕ). slice_get (before ++ (top ∷ [])) n) (sym are.long) ∙ last_item before top)
            (subst (λ (n : ℕ). IsLastOf members explicit (before ++ (top ∷ [])) n k top) same (last_kept before top u k top (are.lasts u top at))))
        | false ↦ λ e.
            let off = eqb-false u t e in
            last_past (before ++ (top ∷ [])) t k o (last_kept before top t k o (are.lasts t o (sym (set_other last u t (Some k) off) ∙ there))) (λ owned. off (sym (one_owner t u of_ owned)))
      ] refl;
    }

    pub unowned_more : (x : Option ℕ) → ((t : ℕ) → t < count → IsOf members t pair.0.0 → ⊥) → AreByType members explicit count (k + 1) last (before ++ (x ∷ []))
    unowned_more x off = record {
      wide = are.wide;
      long = length-append before (x ∷ []) ∙ ap (λ (n : ℕ). n + 1) are.long;
      lasts = λ t o there.
          last_past (before ++ (x ∷ [])) t k o (last_kept before x t k o (are.lasts t o there)) (λ owned.
          let lt = slice_get_within last t o there in
          let e = one_item explicit k owned.0 pair owned.1 stands in
          off t (let wide = are.wide in omega (arith, lt, wide)) (subst (λ (q : MemberId × MemberId). IsOf members t q.0.0) e owned.2));
    }
