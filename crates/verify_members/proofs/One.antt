-- One type as a set of one.
use Rattle.std.proofs.Common.{◌≡◌, ℕ, zero, suc, Bool, true, false, List, [], ◌∷◌, Option, Some, None, unwrap_or, slice_get, IsTrue, refl, sym, ap, subst}
use Rattle.std.specs.Bool.{OnTrue, OnFalse}
use Rattle.dc_base.specs.declared.ty.Ty.{Ty}
use Rattle.class_rows.specs.declared.row.TypeRow.{TypeRow}
use Rattle.class_rows.specs.Lookups.{IsAssignable, AreAssignable}

inside : (a b : Ty) → Some a ≡ Some b → a ≡ b
inside a b h = ap (λ o. unwrap_or o a) h

all_of_one : (types : List TypeRow) (from to : Ty) → IsAssignable types from to → AreAssignable types (from ∷ []) to
all_of_one types from to is zero s at = subst (λ (t : Ty). IsAssignable types t to) (inside from s at) is
all_of_one types from to is (suc k) s at = cc

no_true : IsTrue false → ⊥
no_true h = cc

module _ (types : List TypeRow) (from to : Ty) (set : List Ty) where
  pub yes_of_one : (b : Bool) → set ≡ from ∷ [] → (IsTrue b → AreAssignable types set to) → OnTrue b (IsAssignable types from to)
  yes_of_one true e h = subst (λ (xs : List Ty). AreAssignable types xs to) e (h refl) 0 from refl
  yes_of_one false e h = tt

  pub no_of_one : (b : Bool) → set ≡ from ∷ [] → (AreAssignable types set to → IsTrue b) → OnFalse b (IsAssignable types from to → ⊥)
  no_of_one true e h = tt
  no_of_one false e h = λ is. no_true (h (subst (λ (xs : List Ty). AreAssignable types xs to) (sym e) (all_of_one types from to is)))
