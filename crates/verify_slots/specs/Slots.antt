-- Which slot holds what is known by another, and which frame (ECMA-335 III.1.8.1.3). A frame has the upper slot first.
use Rattle.std.specs.Prelude.{◌≡◌, ◌⊎◌, List, [], ◌∷◌, Option, Contains, MatchOption}
use Rattle.dc_base.specs.declared.ty.Ty.{Ty}
use Rattle.verify_slots.specs.declared.slot.Slot.{Slot}
use Rattle.verify_slots.specs.declared.slot.Slot.TheVariants.{Truth, Int, Refs}
use Rattle.verify_slots.specs.declared.slot.Mark.{Mark}
use Rattle.verify_slots.specs.declared.slot.Mark.TheVariants.{This, Fresh, Other}

-- each type of the one set is in the other
abbrev pub IsSubset : List Ty → List Ty → Type 0
IsSubset s t = (ty : Ty) → Contains s ty → Contains t ty

-- any mark in Other, else the same
abbrev pub IsMarkIn : Mark → Mark → Type 0
IsMarkIn m Other = Unit {0}
IsMarkIn m This = m ≡ This
IsMarkIn m Fresh = m ≡ Fresh

-- the first slot says no less than the second: a truth is an integer, and a set of references lies in a larger one
abbrev pub IsNarrower : Slot → Slot → Type 0
IsNarrower Truth Int = Unit {0}
IsNarrower (Refs s m) (Refs t n) = IsSubset s t × IsMarkIn m n
IsNarrower _ _ = ⊥

-- a slot in a slot
abbrev pub IsIn : Slot → Slot → Type 0
IsIn a b = (a ≡ b) ⊎ IsNarrower a b

-- a frame in a frame: the depths agree, and each slot is in the other's
abbrev pub AreIn : List Slot → List Slot → Type 0
AreIn [] [] = Unit {0}
AreIn (a ∷ f) (b ∷ g) = IsIn a b × AreIn f g
AreIn [] (b ∷ g) = ⊥
AreIn (a ∷ f) [] = ⊥

-- the least of those that hold both
pub record IsUnited {A : Type 0} (In : A → A → Type 0) (a b c : A) : Type 0 where
  pub left : In a c
  pub right : In b c
  pub least : (d : A) → In a d → In b d → In c d

-- none holds both
abbrev pub AreApart : {A : Type 0} → (A → A → Type 0) → A → A → Type 0
AreApart {A} In a b = (c : A) → In a c → In b c → ⊥

-- two unite to this, or none holds both
abbrev pub Unite : {A : Type 0} → (A → A → Type 0) → A → A → Option A → Type 0
Unite In a b united = MatchOption united (AreApart In a b) (IsUnited In a b)

-- holding is an order, but for the order of the types in a set
pub record IsOrder {A : Type 0} (In : A → A → Type 0) : Type 0 where
  pub same : (a : A) → In a a
  pub through : (a b c : A) → In a b → In b c → In a c

-- what two frames unite to says the same whichever of the least it is
abbrev pub UnitedAreOne : Type 0
UnitedAreOne = (f g h k : List Slot) → IsUnited AreIn f g h → IsUnited AreIn f g k → AreIn h k × AreIn k h
