-- What has to hold of the slots that are used, and of the others, slot by slot.
use Rattle.std.specs.Prelude.{◌≡◌, false, ℕ, ◌<◌, List, [], ◌∷◌, Option, Some, None, slice_get, Contains}
use Rattle.class_rows.specs.declared.row.Kind.TheVariants.{Class}
use Rattle.class_rows.specs.declared.row.MemberRow.{MemberRow}
use Rattle.cil_rows.specs.declared.row.Row.{Row}
use Rattle.verify_slots.specs.declared.slot.Slot.{Slot}
use Rattle.verify_slots.specs.declared.slot.Slot.TheVariants.{Lent}
use Rattle.verify_slots.specs.declared.slot.Tested.TheVariants.{By}
use Rattle.verify_rules.specs.declared.setting.Setting.{Setting}
use Rattle.verify_rules.specs.declared.setting.Spot.{Spot}
use Rattle.verify_rules.specs.Puts.{taken, owner_kind}
use Rattle.verify_rules.specs.Gap.{makers, Disturbs, Reads, IsTested, IsTouching, MayCopy, MayUse}
use Rattle.verify_frames.specs.Among.{HasSome, HasNone}

-- an address with tests of its own that isn't among those that are used
abbrev pub IsUnused : List ℕ → Slot → Type 0
IsUnused uses (Lent ty (By k)) = Contains uses k → ⊥
IsUnused uses _ = ⊥

-- besides, its maker asks a question
abbrev pub IsPending : Setting → List ℕ → Slot → Type 0
IsPending s uses (Lent ty (By k)) = (Contains uses k → ⊥) × IsTouching s k
IsPending s uses _ = ⊥

-- it may be copied or dropped
abbrev pub MayBeCopied : Setting → Row → Slot → Type 0
MayBeCopied s row (Lent ty (By k)) = MayCopy s row k
MayBeCopied s row _ = Unit {0}

abbrev pub TopMayBeCopied : Setting → Row → List Slot → Type 0
TopMayBeCopied s row [] = Unit {0}
TopMayBeCopied s row (x ∷ below) = MayBeCopied s row x

-- it may be used so far below the top
abbrev pub MayBeUsed : Setting → Row → ℕ → Slot → Type 0
MayBeUsed s row depth (Lent ty (By k)) = MayUse s row depth k
MayBeUsed s row depth _ = Unit {0}

abbrev pub MayBeUsedAt : Setting → Row → ℕ → Option Slot → Type 0
MayBeUsedAt s row depth None = Unit {0}
MayBeUsedAt s row depth (Some slot) = MayBeUsed s row depth slot

abbrev pub MayBePassed : Setting → Row → List Slot → Type 0
MayBePassed s row frame = (depth : ℕ) → depth < taken s row → MayBeUsedAt s row depth (slice_get frame depth)

-- that there is no gap, where these slots are used and those are left
pub record HasNoGapAmong (s : Setting) (p : Spot) (row : Row) (frame used rest : List Slot) : Type 0 where
  pub quiet : Disturbs s p row frame → HasNone (IsUnused (makers used)) frame
  pub untouched : Reads row → HasNone (IsPending s (makers used)) frame
  pub kept : TopMayBeCopied s row frame
  pub passed : MayBePassed s row frame
  pub alone : HasSome IsTested used → HasNone (IsUnused (makers used)) rest

-- an instance method of a class
abbrev pub IsOfClass : Setting → MemberRow → Type 0
IsOfClass s row = (row.is_static ≡ false) × (owner_kind s row ≡ Some Class)
