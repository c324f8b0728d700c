-- The slots that are given and those that are left.
use Rattle.std.proofs.Common.{◌≡◌, ℕ, ◌==◌, ◌||◌, Bool, true, false, List, [], ◌∷◌, ◌++◌, inl, inr, refl, sym}
use Rattle.std.proofs.lemmas.Bool.{eqb-true, eq-eqb}
use Rattle.std.proofs.lemmas.List.Elements.{Contains-append_cases}
use Rattle.std.proofs.lemmas.Map.Views.{Contains-from_any}
use Rattle.std.specs.List.{Contains, list_any}
use Rattle.std.specs.Bool.{OnTrue, OnFalse}
use Rattle.cil_rows.specs.declared.row.Row.{Row}
use Rattle.cil_rows.specs.declared.row.Row.TheVariants.{Dup, Leave}
use Rattle.verify_slots.specs.declared.slot.Slot.{Slot}
use Rattle.verify_rules.specs.declared.setting.Setting.{Setting}
use Rattle.verify_rules.specs.declared.setting.Spot.{Spot}
use Rattle.verify_rules.specs.Results.{leaves, given_slots, left}
use Rattle.verify_gaps.proofs.Makers.{nothing, one}
use Rattle.verify_results.specs.Twice.{twice}

pub given_twice : (s : Setting) (p : Spot) (of_this : Bool) (frame : List Slot) → twice frame ≡ given_slots s p of_this Dup frame
given_twice s p of_this [] = refl
given_twice s p of_this (x ∷ below) = refl

or_left : (a b : Bool) → a ≡ true → (a || b) ≡ true
or_left true b e = refl
or_left false b e = cc

or_right : (a b : Bool) → b ≡ true → (a || b) ≡ true
or_right true b e = refl
or_right false b e = e

any_has : (ks : List ℕ) (k : ℕ) → Contains ks k → list_any (λ j. j == k) ks ≡ true
any_has [] k has = absurd (nothing k has)
any_has (n ∷ ks) k has = elim (Contains-append_cases (n ∷ []) ks k has) [
  | inl here ↦ or_left (n == k) (list_any (λ j. j == k) ks) (eq-eqb n k (one n k here))
  | inr there ↦ or_right (n == k) (list_any (λ j. j == k) ks) (any_has ks k there)
]

not_any : (b : Bool) → (b ≡ true → ⊥) → false ≡ b
not_any true h = absurd (h refl)
not_any false h = refl

pub is_any : (ks : List ℕ) (k : ℕ) (b : Bool) → OnTrue b (Contains ks k) → OnFalse b (Contains ks k → ⊥) → b ≡ list_any (λ j. j == k) ks
is_any ks k true has none = sym (any_has ks k has)
is_any ks k false has none = not_any (list_any (λ j. j == k) ks) (λ e. none (Contains-from_any {eq = λ q j. j == q} (λ x y t. sym (eqb-true y x t)) k ks e))

pub leaves_other : (s : Setting) (p : Spot) (of_this : Bool) (row : Row) (frame : List Slot) → ((to : ℕ) → row ≡ Leave to → ⊥) → given_slots s p of_this row frame ++ left s row frame ≡ leaves s p of_this row frame
leaves_other s p of_this (Leave to) frame h = absurd (h to refl)
leaves_other s p of_this _ frame h = refl
