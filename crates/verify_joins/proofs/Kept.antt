-- Sets and frames that name each type once.
use Rattle.std.proofs.Common.{◌≡◌, inl, inr, suc, List, [], ◌∷◌, ◌++◌, Option, Some, None, refl, sym, subst, arith}
use Rattle.std.proofs.lemmas.List.Elements.{Contains-push, Contains-push_cases, Contains-append_left}
use Rattle.std.specs.List.{Contains}
use Rattle.dc_base.specs.declared.ty.Ty.{Ty}
use Rattle.verify_slots.specs.declared.slot.Slot.{Slot}
use Rattle.verify_slots.specs.declared.slot.Slot.TheVariants.{Truth, Int, Refs}
use Rattle.verify_slots.specs.declared.slot.Mark.{Mark}
use Rattle.verify_slots.specs.Slots.{IsIn, Unite}
use Rattle.verify_slots.specs.Sets.{IsPut}
use Rattle.verify_narrower.specs.Narrower.{IsOnce, HasOnce, IsFrame}
use Rattle.verify_joins.specs.Once.{OfUnited}

head_of : (x : Ty) (xs : List Ty) → Contains (x ∷ xs) x
head_of x xs = (0, omega arith, refl)

behind : (y x : Ty) (xs : List Ty) → Contains xs x → Contains (y ∷ xs) x
behind y x xs has = let lt = has.1 in (suc has.0, omega (arith, lt), has.2)

-- a type that isn't there is put behind the others
pub once_push : (xs : List Ty) (x : Ty) → (Contains xs x → ⊥) → IsOnce xs → IsOnce (xs ++ x ∷ [])
once_push [] x off once = ((λ has. let lt = has.1 in absurd (omega (arith, lt))), tt)
once_push (y ∷ xs) x off once = (
  (λ has. elim (Contains-push_cases xs x y has) [ inl among ↦ once.0 among | inr e ↦ off (subst (λ (z : Ty). Contains (y ∷ xs) z) (sym e) (head_of y xs)) ]),
  once_push xs x (λ has. off (behind y x xs has)) once.1,
)

pub put_push : (xs : List Ty) (x : Ty) → IsPut xs x (xs ++ x ∷ [])
put_push xs x = record {
  kept = λ y has. Contains-append_left xs (x ∷ []) y has;
  there = Contains-push xs x;
  least = λ set sub has y among. elim (Contains-push_cases xs x y among) [ inl old ↦ sub y old | inr e ↦ subst (λ (z : Ty). Contains set z) e has ];
}

pub put_there : (xs : List Ty) (x : Ty) → Contains xs x → IsPut xs x xs
put_there xs x has = record { kept = λ y h. h; there = has; least = λ set sub more y among. sub y among }

-- what holds a slot that is no reference is none
in_once : (a u : Slot) → ((s : List Ty) (m : Mark) → a ≡ Refs s m → ⊥) → IsIn a u → HasOnce u
in_once Truth u no_ (inl e) = subst HasOnce e tt
in_once Truth Int no_ (inr n) = tt
in_once (Refs s m) u no_ is = absurd (no_ s m refl)
in_once a u no_ (inl e) = subst HasOnce e tt
in_once a u no_ (inr n) = absurd n

pub united_once : (a b : Slot) (o : Option Slot) → ((s : List Ty) (m : Mark) → a ≡ Refs s m → ⊥) → Unite IsIn a b o → HasOnce a → OfUnited HasOnce o
united_once a b None no_ is once = tt
united_once a b (Some u) no_ is once = in_once a u no_ is.left

-- one slot more
pub frame_push : (f : List Slot) (a : Slot) → IsFrame f → HasOnce a → IsFrame (f ++ a ∷ [])
frame_push f a frame once slot has = elim (Contains-push_cases f a slot has) [ inl old ↦ frame slot old | inr e ↦ subst HasOnce e once ]

pub frame_none : IsFrame []
frame_none slot has = let lt = has.1 in absurd (omega (arith, lt))
