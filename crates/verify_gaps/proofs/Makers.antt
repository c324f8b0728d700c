-- Makers of addresses.
use Rattle.std.proofs.Common.{◌≡◌, ◌⊎◌, ℕ, zero, suc, ◌<◌, Bool, true, false, List, [], ◌∷◌, ◌++◌, Option, Some, unwrap_or, length, slice_get, inl, inr, refl, sym, ap, subst, arith}
use Rattle.std.proofs.lemmas.Bool.{cases_eq}
use Rattle.std.proofs.lemmas.Option.{slice_get_within}
use Rattle.std.proofs.lemmas.List.Elements.{Contains-push, Contains-push_cases, Contains-append_left, Contains-append_right, Contains-append_cases}
use Rattle.std.specs.Bool.{OnFalse}
use Rattle.std.specs.List.{Contains}
use Rattle.verify_slots.specs.declared.slot.Slot.{Slot}
use Rattle.verify_slots.specs.declared.slot.Slot.TheVariants.{Lent}
use Rattle.verify_slots.specs.declared.slot.Tested.TheVariants.{By}
use Rattle.verify_rules.specs.Slots.{IsBy}
use Rattle.verify_rules.specs.Gap.{makers, makers_of, IsTested}
use Rattle.verify_frames.specs.Among.{HasSome, HasNone}

pub nothing : (k : ℕ) → Contains [] k → ⊥
nothing k has = let lt = has.1 in omega (arith, lt)

pub sole : (n k : ℕ) → n ≡ k → Contains (n ∷ []) k
sole n k e = subst (λ i. Contains (n ∷ []) i) e (Contains-push [] n)

pub one : (n k : ℕ) → Contains (n ∷ []) k → n ≡ k
one n k has = elim (Contains-push_cases [] n k has) [ inl none ↦ absurd (nothing k none) | inr e ↦ e ]

member : (ks : List ℕ) (k : ℕ) → Contains ks k ⊎ (Contains ks k → ⊥)
member [] k = inr (nothing k)
member (n ∷ ks) k = elim (cases_eq n k) [
  | inl e ↦ inl (Contains-append_left (n ∷ []) ks k (sole n k e))
  | inr ne ↦ elim (member ks k) [
    | inl has ↦ inl (Contains-append_right (n ∷ []) ks k has)
    | inr none ↦ inr (λ has. elim (Contains-append_cases (n ∷ []) ks k has) [ inl a ↦ ne (one n k a) | inr b ↦ none b ])
  ]
]

-- what can't be missing is there
pub stable : (ks : List ℕ) (k : ℕ) → ((Contains ks k → ⊥) → ⊥) → Contains ks k
stable ks k h = elim (member ks k) [ inl has ↦ has | inr none ↦ absurd (h none) ]

pub record IsMadeIn (slots : List Slot) (k : ℕ) : Type 0 where
  pub place : ℕ
  pub slot : Slot
  pub at : slice_get slots place ≡ Some slot
  pub has : Contains (makers_of slot) k

pub from_makers : (slots : List Slot) (k : ℕ) → Contains (makers slots) k → IsMadeIn slots k
from_makers [] k has = absurd (nothing k has)
from_makers (x ∷ slots) k has = elim (Contains-append_cases (makers_of x) (makers slots) k has) [
  | inl here ↦ record { place = 0; slot = x; at = refl; has = here }
  | inr there ↦ let m = from_makers slots k there in record { place = suc m.place; slot = m.slot; at = m.at; has = m.has }
]

inside : (a b : Slot) → Some a ≡ Some b → a ≡ b
inside a b h = ap (λ o. unwrap_or o a) h

pub to_makers : (slots : List Slot) (i : ℕ) (slot : Slot) (k : ℕ) → slice_get slots i ≡ Some slot → Contains (makers_of slot) k → Contains (makers slots) k
to_makers [] i slot k at has = cc
to_makers (x ∷ slots) zero slot k at has =
    Contains-append_left (makers_of x) (makers slots) k (subst (λ (y : Slot). Contains (makers_of y) k) (sym (inside x slot at)) has)
to_makers (x ∷ slots) (suc i) slot k at has = Contains-append_right (makers_of x) (makers slots) k (to_makers slots i slot k at has)

made_by : (slot : Slot) (k : ℕ) → IsBy k slot → Contains (makers_of slot) k
made_by (Lent ty (By n)) k by = sole n k by
made_by _ k by = absurd by

by_made : (slot : Slot) (k : ℕ) → Contains (makers_of slot) k → IsBy k slot
by_made (Lent ty (By n)) k has = one n k has
by_made _ k has = absurd (nothing k has)

pub made_some : (slots : List Slot) (k : ℕ) → HasSome (IsBy k) slots → Contains (makers slots) k
made_some slots k some = to_makers slots some.0 some.1 k some.2 (made_by some.1 k some.3)

pub made_none : (slots : List Slot) (k : ℕ) → HasNone (IsBy k) slots → Contains (makers slots) k → ⊥
made_none slots k none has =
    let m = from_makers slots k has in none m.place m.slot (slice_get_within slots m.place m.slot m.at) m.at (by_made m.slot k m.has)

pub some_or_none : (Is : Slot → Type 0) (slots : List Slot) → HasSome Is slots → HasNone Is slots → ⊥
some_or_none Is slots some none = none some.0 some.1 (slice_get_within slots some.0 some.1 some.2) some.2 some.3

tested_by : (slot : Slot) (k : ℕ) → Contains (makers_of slot) k → IsTested slot
tested_by (Lent ty (By n)) k has = tt
tested_by _ k has = absurd (nothing k has)

pub tested_some : (slots : List Slot) (k : ℕ) → Contains (makers slots) k → HasSome IsTested slots
tested_some slots k has = let m = from_makers slots k has in (m.place, m.slot, m.at, tested_by m.slot k m.has)

pub record HasOne (ks : List ℕ) : Type 0 where
  pub k : ℕ
  pub has : Contains ks k

made_of : (slot : Slot) → IsTested slot → HasOne (makers_of slot)
made_of (Lent ty (By n)) is = record { k = n; has = sole n n refl }
made_of _ is = absurd is

pub some_tested : (slots : List Slot) → HasSome IsTested slots → HasOne (makers slots)
some_tested slots some =
    let m = made_of some.1 some.3 in record { k = m.k; has = to_makers slots some.0 some.1 m.k some.2 m.has }

pub not_used : (slots : List Slot) (k : ℕ) (b : Bool) → OnFalse b (HasNone (IsBy k) slots) → OnFalse b (Contains (makers slots) k → ⊥)
not_used slots k true none = tt
not_used slots k false none = made_none slots k none
