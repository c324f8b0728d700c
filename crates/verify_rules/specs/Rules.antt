-- The rules in their order, and what it means that an instruction is accepted (ECMA-335 III.1.8).
use Rattle.std.specs.Prelude.{◌≡◌, ◌⊎◌, ◌+◌, ◌-◌, ◌≤◌, Bool, true, false, List, [], ◌∷◌, length, MatchBool}
use Rattle.dc_causes.specs.Step.{Step, Test, Then, Gives}
use Rattle.dc_causes.specs.Causes.{InOrder}
use Rattle.dc_base.specs.declared.ty.Ty.{Ty}
use Rattle.cil_rows.specs.declared.row.Row.{Row}
use Rattle.cil_rows.specs.declared.row.Row.TheVariants.{Return}
use Rattle.verify_slots.specs.declared.slot.Slot.{Slot}
use Rattle.verify_rules.specs.declared.rule.Rule.{Rule}
use Rattle.verify_rules.specs.declared.rule.Rule.TheVariants.{Underflow, MaxStack, FallOff, Jump, Empty, InitLocals, Kind, Truth, Assign, ThisStore, InitOnly, Receiver, Gap, Border, Merge, Access}
use Rattle.verify_rules.specs.declared.setting.Setting.{Setting}
use Rattle.verify_rules.specs.declared.setting.Spot.{Spot}
use Rattle.verify_rules.specs.Look.{types_of}
use Rattle.verify_rules.specs.Held.{held_by}
use Rattle.verify_rules.specs.Puts.{IsPut, FitsKind, FitsTruth, FitsType, taken, given}
use Rattle.verify_rules.specs.Kinds.{IsTaken}
use Rattle.verify_rules.specs.Members.{KeepsThis, KeepsInitOnly, KeepsReceiver, KeepsDelegate, KeepsAccess}
use Rattle.verify_rules.specs.Gap.{HasNoGap, KeepsBorder, IsOfThis}
use Rattle.verify_rules.specs.Results.{leaves}

-- what is put fits its place
abbrev pub PutsFit : Setting → Row → List Slot → (Ty → Slot → Type 0) → Type 0
PutsFit s row frame Fits = (slot : Slot) (ty : Ty) → IsPut s row frame slot ty → Fits ty slot

-- neither the frame before the instruction nor the one behind it is deeper than the limit
abbrev pub IsShallow : Setting → Row → List Slot → Type 0
IsShallow s row frame =
    (length frame ≤ s.max_stack) × (length frame - taken s row + given s row ≤ s.max_stack)

-- the stack is empty where a try begins, and behind the result
abbrev pub IsEmptied : Setting → Row → List Slot → Type 0
IsEmptied s Return frame = length frame ≤ taken s Return
IsEmptied s _ frame = Unit {0}

-- the method's locals begin as zeros, if it has any
abbrev pub AreZeros : Setting → Type 0
AreZeros s = (s.locals.now ≡ []) ⊎ (s.init_locals ≡ true)

-- the instruction keeps the rule at this frame. That frames agree where they meet is asked there.
abbrev pub Keeps : Setting → Spot → Row → List Slot → Rule → Type 0
Keeps s p row frame Underflow = taken s row ≤ length frame
Keeps s p row frame MaxStack = IsShallow s row frame
Keeps s p row frame FallOff = p.falls_off ≡ false
Keeps s p row frame Jump = p.jumps_off ≡ false
Keeps s p row frame Empty = (p.begins_try ≡ true → frame ≡ []) × IsEmptied s row frame
Keeps s p row frame InitLocals = AreZeros s
Keeps s p row frame Kind = IsTaken s p row frame × PutsFit s row frame (λ ty slot. FitsKind (held_by (types_of s) ty) slot)
Keeps s p row frame Truth = PutsFit s row frame (λ ty slot. FitsTruth (held_by (types_of s) ty) slot)
Keeps s p row frame Assign = PutsFit s row frame (λ ty slot. FitsType (types_of s) ty (held_by (types_of s) ty) slot) × KeepsDelegate s row frame
Keeps s p row frame ThisStore = KeepsThis s row
Keeps s p row frame InitOnly = KeepsInitOnly s row frame
Keeps s p row frame Receiver = KeepsReceiver s p row frame
Keeps s p row frame Gap = HasNoGap s p row frame
Keeps s p row frame Border = KeepsBorder s p row frame
Keeps s p row frame Merge = Unit {0}
Keeps s p row frame Access = KeepsAccess s row frame

abbrev pub rules : List Rule
rules =
    Underflow ∷ MaxStack ∷ FallOff ∷ Jump ∷ Empty ∷ InitLocals ∷ Kind ∷ Truth ∷ Assign ∷ ThisStore ∷ InitOnly ∷ Receiver
    ∷ Gap ∷ Border ∷ Merge ∷ Access ∷ []

-- it is an access to a field of `this`, or it isn't
abbrev pub TellsThis : Setting → Spot → Bool → Type 0
TellsThis s p of_this = MatchBool of_this (IsOfThis s p) (IsOfThis s p → ⊥)

-- all rules are kept and this is the frame behind the instruction, or this is the first rule that is broken
abbrev pub Accepts : Setting → Spot → Row → List Slot → Step (List Slot) Rule
Accepts s p row frame r =
    Then (InOrder (λ rule. Test (Keeps s p row frame rule) rule) rules)
    (λ _ q. (of_this : Bool) × TellsThis s p of_this × Gives (leaves s p of_this row frame) q) r
