-- Facts that are denied, and items one after another.
use Rattle.std.proofs.Common.{◌≡◌, ◌⊎◌, ℕ, ◌+◌, ◌<◌, Bool, true, false, Option, Some, unwrap_or, List, length, get_or, inl, inr, sym, ap, ◌∙◌, subst, arith}
use Rattle.std.proofs.lemmas.Bool.{cases_lt}
use Rattle.std.proofs.lemmas.Option.{slice_get-get_or}
use Rattle.std.specs.Bool.{OnFalse}
use Rattle.dc_base.specs.declared.ty.Ty.{Ty}
use Rattle.cil_rows.specs.declared.row.Access.{Access}
use Rattle.verify_rules.specs.declared.setting.Setting.{Setting}
use Rattle.verify_rules.specs.Held.{element_of}
use Rattle.verify_rules.specs.Kinds.{Accesses, IsSo}

pub neither : (A B : Type 0) (b : Bool) → (A → ⊥) → OnFalse b (B → ⊥) → OnFalse b (A ⊎ B → ⊥)
neither A B true h k = tt
neither A B false h k = λ e. elim e [ inl a ↦ h a | inr x ↦ k x ]

inside : (a b : Ty) → Some a ≡ Some b → a ≡ b
inside a b h = ap (λ o. unwrap_or o a) h

any_default : (xs : List Ty) (i : ℕ) (a b : Ty) → i < length xs → get_or xs i a ≡ get_or xs i b
any_default xs i a b lt = inside (get_or xs i a) (get_or xs i b) (sym (slice_get-get_or xs i a lt) ∙ slice_get-get_or xs i b lt)

pub all_more : (s : Setting) (access : Access) (set : List Ty) (i : ℕ) (other : Ty) (element : Option Ty) → i < length set
    → ((k : ℕ) (d : Ty) → k < i → IsSo (Accesses s access) (element_of (get_or set k d)))
    → element ≡ element_of (get_or set i other) → IsSo (Accesses s access) element
    → (k : ℕ) (d : Ty) → k < i + 1 → IsSo (Accesses s access) (element_of (get_or set k d))
all_more s access set i other element lt before e is k d less = elim (cases_lt k i) [
  | inl lower ↦ before k d lower
  | inr more ↦
      let same : i ≡ k = omega (arith, less, more) in
      let here : element ≡ element_of (get_or set k d) = e ∙ ap element_of (any_default set i other d lt) ∙ ap (λ j. element_of (get_or set j d)) same in
      subst (λ (o : Option Ty). IsSo (Accesses s access) o) here is
]
