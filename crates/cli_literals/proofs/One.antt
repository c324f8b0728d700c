-- A count of one is that of the first row, and of no other.
use Rattle.std.proofs.Common.{◌≡◌, ◌≢◌, ◌∙◌, ℕ, ◌+◌, ◌-◌, ◌≤◌, Some, sym, subst, inl, inr, arith}
use Rattle.std.specs.List.{slice_get}
use Rattle.std.proofs.lemmas.Bool.{cases_lt}
use Rattle.dc_base.specs.declared.ty.Ty.{Ty}
use Rattle.cli_metadata.specs.declared.tables.Table.TheVariants as tables
use Rattle.cli_metadata.specs.Metadata.{Contents, rows_of}
use Rattle.cli_constants.specs.Owned.{IsConstantOf, AreMany, over, one_more, passed, IsOwned, AreConstants}
use Rattle.cli_literals.specs.declared.fields.Fields.{Fields}
use Rattle.cli_literals.specs.Fails.{IsFit, HasOneFit}
use Rattle.cli_literals.specs.Marks.{IsRow}

module _ (Is : ℕ → Type 0) (last : ℕ) where
  -- among none there is none
  none_of : (k n : ℕ) → AreMany Is last k n → n ≡ 0 → (r : ℕ) → k ≤ r → r ≤ last → Is r → ⊥
  none_of k n (over _ past) none r from up is = omega (arith, past, from, up)
  none_of k n (one_more _ count is_k more) none r from up is = omega (arith, none)
  none_of k n (passed _ _ off more) none r from up is = elim (cases_lt k r) [
    | inl behind ↦ none_of (k + 1) n more none r (omega (arith, behind)) up is
    | inr le ↦ off (subst Is (let same : r ≡ k = omega (arith, from, le) in same) is)
  ]

  -- among one there is one
  one_of : (k n : ℕ) → AreMany Is last k n → n ≡ 1 → (r s : ℕ) → k ≤ r → r ≤ last → k ≤ s → s ≤ last → Is r → Is s → r ≡ s
  one_of k n (over _ past) one r s from up from_s up_s is is_s = omega (arith, one)
  one_of k n (one_more _ count is_k more) one r s from up from_s up_s is is_s =
      let none : count ≡ 0 = omega (arith, one) in
      elim (cases_lt k r) [
        | inl behind ↦ absurd (none_of (k + 1) count more none r (omega (arith, behind)) up is)
        | inr le ↦ elim (cases_lt k s) [
          | inl behind ↦ absurd (none_of (k + 1) count more none s (omega (arith, behind)) up_s is_s)
          | inr le_s ↦ omega (arith, from, le, from_s, le_s)
        ]
      ]
  one_of k n (passed _ _ off more) one r s from up from_s up_s is is_s = elim (cases_lt k r) [
    | inr le ↦ absurd (off (subst Is (let same : r ≡ k = omega (arith, from, le) in same) is))
    | inl behind ↦ elim (cases_lt k s) [
      | inr le_s ↦ absurd (off (subst Is (let same : s ≡ k = omega (arith, from_s, le_s) in same) is_s))
      | inl behind_s ↦ one_of (k + 1) n more one r s (omega (arith, behind)) up (omega (arith, behind_s)) up_s is is_s
    ]
  ]

  -- among some there is one
  some_of : (k n : ℕ) → AreMany Is last k n → 1 ≤ n → (r : ℕ) × (k ≤ r) × Is r
  some_of k n (over _ past) some = absurd (omega (arith, some))
  some_of k n (one_more _ count is_k more) some = (k, omega arith, is_k)
  some_of k n (passed _ _ off more) some =
      let found = some_of (k + 1) n more some in
      let from = found.1 in
      (found.0, omega (arith, from), found.2)

  -- where each is this one, and it is one, there is one
  only_one : (k n : ℕ) → AreMany Is last k n → (r : ℕ) → k ≤ r → r ≤ last → Is r → ((s : ℕ) → Is s → s ≡ r) → n ≡ 1
  only_one k n (over _ past) r from up is only = omega (arith, past, from, up)
  only_one k n (passed _ _ off more) r from up is only = elim (cases_lt k r) [
    | inl behind ↦ only_one (k + 1) n more r (omega (arith, behind)) up is only
    | inr le ↦ absurd (off (subst Is (let same : r ≡ k = omega (arith, from, le) in same) is))
  ]
  only_one k n (one_more _ count is_k more) r from up is only =
      let same : k ≡ r = only k is_k in
      elim (cases_lt 0 count) [
        | inl some ↦
            let found = some_of (k + 1) count more (omega (arith, some)) in
            let other : found.0 ≡ r = only found.0 found.2 in
            let past = found.1 in
            absurd (omega (arith, same, other, past))
        | inr none ↦ omega (arith, none)
      ]

module _ (m : Contents) (s : Fields) (known : AreConstants m s.constants.now) (k : ℕ) (found : ℕ × ℕ) (at : slice_get s.constants.now k ≡ Some found) where
  its : IsOwned m (k + 1) found
  its = known.each k found at

  pub not_one : found.0 ≢ 1 → HasOneFit m s (k + 1) → ⊥
  not_one off fit = let own = fit.own in
      let low = own.low in
      let high = own.high in
      off (only_one (IsConstantOf m (k + 1)) (rows_of m tables.Constant) 1 found.0 its.count fit.r low high own fit.only)

  module _ (one : found.0 ≡ 1) where
    pub the_first : IsConstantOf m (k + 1) found.1
    the_first = elim its.first [
      | inl first ↦ first.holds
      | inr none ↦ absurd (omega (arith, one, none))
    ]

    pub row : IsRow m found.1
    row = record { low = the_first.low; high = the_first.high }

    only_first : (r : ℕ) → IsConstantOf m (k + 1) r → r ≡ found.1
    only_first r own = one_of (IsConstantOf m (k + 1)) (rows_of m tables.Constant) 1 found.0 its.count one r found.1 own.low own.high the_first.low the_first.high own the_first

    module _ (ty : Ty) (typed : slice_get s.tys.now k ≡ Some ty) where
      here : k + 1 - 1 ≡ k
      here = omega arith

      pub fit : IsFit m s ty found.1 → HasOneFit m s (k + 1)
      fit is = record {
        r = found.1;
        own = the_first;
        only = only_first;
        ty = ty;
        typed = subst (λ (n : ℕ). slice_get s.tys.now n ≡ Some ty) (sym here) typed;
        fit = is;
      }

      pub no_fit : (IsFit m s ty found.1 → ⊥) → HasOneFit m s (k + 1) → ⊥
      no_fit off so =
          let tys : Some so.ty ≡ Some ty = sym (subst (λ (n : ℕ). slice_get s.tys.now n ≡ Some so.ty) here so.typed) ∙ typed in
          let same : so.ty ≡ ty = cc in
          off (subst (λ (r : ℕ). IsFit m s ty r) (only_first so.r so.own) (subst (λ (t : Ty). IsFit m s t so.r) same so.fit))
