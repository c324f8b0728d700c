-- The frames of a body (ECMA-335 III.1.8.1.1): a method is verified where each instruction that is reached has a frame at
-- which it is accepted, and what it leaves is in the frame of each instruction to which it leads.
use Rattle.std.specs.Prelude.{◌≡◌, ◌≢◌, ◌⊎◌, ℕ, ◌+◌, List, [], ◌∷◌, Option, Some, None, length, slice_get, true, Contains, Ok}
use Rattle.dc_base.specs.declared.names.Token.{Token}
use Rattle.dc_base.specs.declared.ty.Ty.{Ty}
use Rattle.cil_body.specs.declared.body.Body.{Body}
use Rattle.cil_regions.specs.declared.region.RegionKind.{RegionKind}
use Rattle.cil_regions.specs.declared.region.RegionKind.TheVariants.{Code, Try, Catch, Finally}
use Rattle.cil_rows.specs.declared.row.Row.{Row}
use Rattle.cil_rows.specs.Flow.{aims_of, goes_on}
use Rattle.cil_rows.specs.Code.{rows_of}
use Rattle.cli_assembly.specs.declared.meaning.Named.{Named}
use Rattle.cli_assembly.specs.declared.meaning.Named.TheVariants.{OfLocals}
use Rattle.cli_assembly.specs.Meaning.{meaning}
use Rattle.verify_slots.specs.declared.slot.Slot.{Slot}
use Rattle.verify_slots.specs.declared.slot.Slot.TheVariants.{Refs}
use Rattle.verify_slots.specs.declared.slot.Mark.TheVariants.{Other}
use Rattle.verify_slots.specs.Slots.{AreIn}
use Rattle.verify_rules.specs.declared.setting.Setting.{Setting}
use Rattle.verify_rules.specs.declared.setting.Spot.{Spot}
use Rattle.verify_rules.specs.Look.{named_ty}
use Rattle.verify_rules.specs.Rules.{Accepts}
use Rattle.verify_narrower.specs.Narrower.{IsFrame}
use Rattle.verify_spots.specs.Spots.{IsRow, IsFirstOf, HasRegion, IsSpot}

-- the setting is that of the body
abbrev pub locals_meant : Option Named → List Ty
locals_meant (Some (OfLocals tys)) = tys
locals_meant _ = []

pub record IsSettingOf (s : Setting) (body : Body) : Type 0 where
  pub rows : s.rows.now ≡ rows_of body.code
  pub depth : s.max_stack ≡ body.max_stack
  pub zeros : s.init_locals ≡ body.init_locals
  pub locals : s.locals.now ≡ locals_meant (meaning s.tokens.now body.locals)

-- a frame for each instruction by its number, and none where it isn't reached
abbrev pub Table : Type 0
Table = List (Option (List Slot))

abbrev pub HasFrame : Table → ℕ → List Slot → Type 0
HasFrame table i frame = slice_get table i ≡ Some (Some frame)

-- what is on the stack where a region begins: nothing, and in a catch the exception, of its class alone
abbrev pub caught : Option Ty → Option (List Slot)
caught None = None
caught (Some ty) = Some (Refs (ty ∷ []) Other ∷ [])

abbrev pub entered : Setting → RegionKind → Option (List Slot)
entered s Code = Some []
entered s Finally = Some []
entered s (Catch class) = caught (named_ty s class)
entered s Try = None

-- the method and its handlers are entered at this instruction, with this frame
abbrev pub IsEntry : Setting → Body → ℕ → List Slot → Type 0
IsEntry s body i frame = HasRegion body (λ r. IsFirstOf body r i × (entered s r.kind ≡ Some frame))

-- the row of one instruction leads to another
abbrev pub LeadsTo : Row → ℕ → ℕ → Type 0
LeadsTo row i j = ((goes_on row ≡ true) × (j ≡ i + 1)) ⊎ Contains (aims_of row) j

-- the frame of the instruction holds this one
abbrev pub IsWithin : Table → ℕ → List Slot → Type 0
IsWithin table i frame = (held : List Slot) × HasFrame table i held × AreIn frame held

-- the instruction is accepted at this frame, and leaves that one
abbrev pub IsAccepted : Setting → Body → ℕ → Row → List Slot → List Slot → Type 0
IsAccepted s body i row frame left = (spot : Spot) × IsSpot s body i spot × Accepts s spot row frame (Ok left)

-- a frame for each instruction that is reached, at which it is accepted
pub record AreFrames (s : Setting) (body : Body) (table : Table) : Type 0 where
  pub as_many : length table ≡ length s.rows.now
  pub are : (i : ℕ) (frame : List Slot) → HasFrame table i frame → IsFrame frame
  pub some : s.rows.now ≢ []
  pub entries : (i : ℕ) (frame : List Slot) → IsEntry s body i frame → IsWithin table i frame
  pub accepted : (i : ℕ) (row : Row) (frame : List Slot) → IsRow s i row → HasFrame table i frame → (left : List Slot) × IsAccepted s body i row frame left × ((j : ℕ) → LeadsTo row i j → IsWithin table j left)

-- the method is verified
abbrev pub IsVerified : Setting → Body → Type 0
IsVerified s body = (table : Table) × AreFrames s body table

-- the least frames: each is in that of every other map
pub record AreLeastFrames (s : Setting) (body : Body) (table : Table) : Type 0 where
  pub frames : AreFrames s body table
  pub least : (other : Table) → AreFrames s body other → (i : ℕ) (frame : List Slot) → HasFrame table i frame → IsWithin other i frame
