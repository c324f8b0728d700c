-- What accepts a frame accepts each frame in it (ECMA-335 III.1.8.1.2.3).
use Rattle.std.specs.Prelude.{List, [], ◌∷◌, Contains, Ok}
use Rattle.dc_base.specs.declared.ty.Ty.{Ty}
use Rattle.cil_rows.specs.declared.row.Row.{Row}
use Rattle.verify_slots.specs.declared.slot.Slot.{Slot}
use Rattle.verify_slots.specs.declared.slot.Slot.TheVariants.{Refs}
use Rattle.verify_slots.specs.Slots.{AreIn}
use Rattle.verify_rules.specs.declared.setting.Setting.{Setting}
use Rattle.verify_rules.specs.declared.setting.Spot.{Spot}
use Rattle.verify_rules.specs.Rules.{Accepts}

-- the sets of a frame name each type once
abbrev pub IsOnce : List Ty → Type 0
IsOnce [] = Unit {0}
IsOnce (ty ∷ set) = (Contains set ty → ⊥) × IsOnce set

abbrev pub HasOnce : Slot → Type 0
HasOnce (Refs set mark) = IsOnce set
HasOnce _ = Unit {0}

abbrev pub IsFrame : List Slot → Type 0
IsFrame frame = (slot : Slot) → Contains frame slot → HasOnce slot

-- an instruction that is accepted at a frame is so at each frame in it, and leaves a frame in the other's
abbrev pub NarrowerFramesAreAccepted : Type 0
NarrowerFramesAreAccepted =
    (s : Setting) (p : Spot) (row : Row) (f g h : List Slot) → IsFrame f → AreIn f g → Accepts s p row g (Ok h)
    → (k : List Slot) × Accepts s p row f (Ok k) × IsFrame k × AreIn k h
