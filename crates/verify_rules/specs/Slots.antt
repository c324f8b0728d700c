-- Tests of slots, and of the slots that an instruction takes: a frame has the upper slot first.
use Rattle.std.specs.Prelude.{◌≡◌, ◌⊎◌, ℕ, List, [], ◌∷◌, Some, slice_get}
use Rattle.verify_slots.specs.declared.slot.Slot.{Slot}
use Rattle.verify_slots.specs.declared.slot.Slot.TheVariants.{Truth, Int, Long, Length, Refs, Lent, Code}
use Rattle.verify_slots.specs.declared.slot.Mark.{Mark}
use Rattle.verify_slots.specs.declared.slot.Tested.TheVariants.{By}

-- the slot so far below the top
abbrev pub IsAt : List Slot → ℕ → Slot → Type 0
IsAt frame k slot = slice_get frame k ≡ Some slot

-- an integer of 32 bits; a truth is one
abbrev pub Is32 : Slot → Type 0
Is32 Truth = Unit {0}
Is32 Int = Unit {0}
Is32 _ = ⊥

abbrev pub Is64 : Slot → Type 0
Is64 Long = Unit {0}
Is64 _ = ⊥

abbrev pub IsNumber : Slot → Type 0
IsNumber Truth = Unit {0}
IsNumber Int = Unit {0}
IsNumber Long = Unit {0}
IsNumber _ = ⊥

abbrev pub IsLength : Slot → Type 0
IsLength Length = Unit {0}
IsLength _ = ⊥

abbrev pub IsReference : Slot → Type 0
IsReference (Refs set mark) = Unit {0}
IsReference _ = ⊥

abbrev pub IsNull : Slot → Type 0
IsNull (Refs set mark) = set ≡ []
IsNull _ = ⊥

abbrev pub IsCode : Slot → Type 0
IsCode (Code m) = Unit {0}
IsCode _ = ⊥

abbrev pub IsMarked : Mark → Slot → Type 0
IsMarked m (Refs set mark) = mark ≡ m
IsMarked m _ = ⊥

-- a length, an address or a method as a function: what may not stand over a jump
abbrev pub IsFleeting : Slot → Type 0
IsFleeting Length = Unit {0}
IsFleeting (Lent ty tested) = Unit {0}
IsFleeting (Code m) = Unit {0}
IsFleeting _ = ⊥

-- an address whose tests belong to its first use, made by the instruction of this number
abbrev pub IsBy : ℕ → Slot → Type 0
IsBy k (Lent ty (By n)) = n ≡ k
IsBy k _ = ⊥

-- two integers of one size
abbrev pub AreOneSize : Slot → Slot → Type 0
AreOneSize x y = (Is32 x × Is32 y) ⊎ (Is64 x × Is64 y)

abbrev pub AreReferences : Slot → Slot → Type 0
AreReferences x y = IsReference x × IsReference y

-- of the slots that are taken, the lowest first
abbrev pub One : (Slot → Type 0) → List Slot → Type 0
One Is (x ∷ below) = Is x
One Is [] = ⊥

abbrev pub Two : (Slot → Slot → Type 0) → List Slot → Type 0
Two Are (y ∷ x ∷ below) = Are x y
Two Are (y ∷ []) = ⊥
Two Are [] = ⊥

abbrev pub Three : (Slot → Slot → Slot → Type 0) → List Slot → Type 0
Three Are (z ∷ y ∷ x ∷ below) = Are x y z
Three Are (z ∷ y ∷ []) = ⊥
Three Are (z ∷ []) = ⊥
Three Are [] = ⊥
