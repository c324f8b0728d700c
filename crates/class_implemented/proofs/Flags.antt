-- The flags of public instance members, one by one.
use Rattle.std.proofs.Common.{◌≡◌, ℕ, ◌+◌, Bool, true, Some, None, List, [], ◌∷◌, ◌++◌, length, inl, inr, sym, ap, subst, ◌∙◌, arith}
use Rattle.std.proofs.lemmas.Bool.{cases_lt}
use Rattle.std.proofs.lemmas.List.{length-append}
use Rattle.std.specs.List.{slice_get}
use Rattle.class_keys.proofs.Items.{pushed_item, item_kept, last_item}
use Rattle.class_rows.specs.declared.row.MemberRow.{MemberRow}
use Rattle.class_implemented.specs.Known.{IsImplicit, AreImplicit}

module _ (members : List MemberRow) where
  pub none_flagged : (flags : List Bool) → flags ≡ [] → AreImplicit members 0 flags
  none_flagged flags none = record {
    long = ap length none;
    yes_ = λ n at. let e : None ≡ Some true = sym (ap (λ (l : List Bool). slice_get l n) none) ∙ at in absurd cc;
    no_ = λ n lt h. absurd (omega (arith, lt));
  }

  pub flagged_more : (flags : List Bool) (m : ℕ) (flag : Bool) → AreImplicit members m flags → (flag ≡ true → IsImplicit members m) → (IsImplicit members m → flag ≡ true) → AreImplicit members (m + 1) (flags ++ (flag ∷ []))
  flagged_more flags m flag are is so = record {
    long = length-append flags (flag ∷ []) ∙ ap (λ (n : ℕ). n + 1) are.long;
    yes_ = λ n at. elim (pushed_item flags flag n true at) [
      | inl old ↦ are.yes_ n old
      | inr new ↦ subst (λ (k : ℕ). IsImplicit members k) (sym (new.0 ∙ are.long)) (is (sym new.1))
    ];
    no_ = λ n lt implicit. elim (cases_lt n m) [
      | inl less ↦ item_kept flags (flag ∷ []) n true (are.no_ n less implicit)
      | inr ge ↦
          let same : n ≡ m = omega (arith, ge, lt) in
          let up : flag ≡ true = so (subst (λ (k : ℕ). IsImplicit members k) same implicit) in
          ap (λ (k : ℕ). slice_get (flags ++ (flag ∷ [])) k) (same ∙ sym are.long) ∙ last_item flags flag ∙ ap Some up
    ];
  }
