-- What is asked of a slot that goes to a place.
use Rattle.std.specs.Prelude.{ℕ, ◌<◌, ◌-◌, List, Option, Some, None, length, slice_get}
use Rattle.dc_base.specs.declared.ty.Ty.{Ty}
use Rattle.class_rows.specs.declared.row.Param.{Param}
use Rattle.cil_rows.specs.declared.row.Row.{Row}
use Rattle.cil_rows.specs.declared.row.Row.TheVariants.{StoreElement, StoreIndirect}
use Rattle.verify_slots.specs.declared.slot.Slot.{Slot}
use Rattle.verify_slots.specs.declared.slot.Slot.TheVariants.{Refs, Lent}
use Rattle.verify_rules.specs.declared.setting.Setting.{Setting}
use Rattle.verify_rules.specs.Look.{types_of, ty_of_param}
use Rattle.verify_rules.specs.Held.{held_by, element_of}
use Rattle.verify_rules.specs.Puts.{FitsKind, FitsTruth, FitsType, top_place, this_put, this_depth, arguments}
use Rattle.verify_puts.specs.declared.fit.Fit.{Fit}
use Rattle.verify_puts.specs.declared.fit.Fit.TheVariants.{Kind, Truth, Assigned}

abbrev pub Fits : Setting → Fit → Ty → Slot → Type 0
Fits s Kind ty slot = FitsKind (held_by (types_of s) ty) slot
Fits s Truth ty slot = FitsTruth (held_by (types_of s) ty) slot
Fits s Assigned ty slot = FitsType (types_of s) ty (held_by (types_of s) ty) slot

-- where both the place and the slot are there
abbrev pub FitsThere : Setting → Fit → Option Ty → Option Slot → Type 0
FitsThere s fit None slot = Unit {0}
FitsThere s fit (Some ty) None = Unit {0}
FitsThere s fit (Some ty) (Some slot) = Fits s fit ty slot

-- the place that an address is of
abbrev pub place_of : Option Slot → Option Ty
place_of (Some (Lent ty tested)) = Some ty
place_of _ = None

-- the arguments, the last on top
abbrev pub ArgumentsFit : Setting → Fit → List Param → List Slot → Type 0
ArgumentsFit s fit params frame =
    (k : ℕ) → k < length params → FitsThere s fit (ty_of_param (slice_get params k)) (slice_get frame (length params - 1 - k))

-- the elements of each array of a set
abbrev pub element_at : Option Ty → Option Ty
element_at None = None
element_at (Some array) = element_of array

abbrev pub ElementsFit : Setting → Fit → List Ty → Option Slot → Type 0
ElementsFit s fit set slot = (k : ℕ) → k < length set → FitsThere s fit (element_at (slice_get set k)) slot

abbrev pub SetFits : Setting → Fit → Slot → Option Slot → Type 0
SetFits s fit (Refs set mark) slot = ElementsFit s fit set slot
SetFits s fit _ slot = Unit {0}

abbrev pub ArrayFits : Setting → Fit → Option Slot → Option Slot → Type 0
ArrayFits s fit None slot = Unit {0}
ArrayFits s fit (Some array) slot = SetFits s fit array slot

abbrev pub ThroughFits : Setting → Fit → Row → List Slot → Type 0
ThroughFits s fit (StoreIndirect access) frame = FitsThere s fit (place_of (slice_get frame 1)) (slice_get frame 0)
ThroughFits s fit (StoreElement access) frame = ArrayFits s fit (slice_get frame 2) (slice_get frame 0)
ThroughFits s fit _ frame = Unit {0}

-- what is put fits, part by part
pub record PartsFit (s : Setting) (fit : Fit) (row : Row) (frame : List Slot) : Type 0 where
  pub top : FitsThere s fit (top_place s row) (slice_get frame 0)
  pub receiver : FitsThere s fit (this_put s row) (slice_get frame (this_depth s row))
  pub passed : ArgumentsFit s fit (arguments s row) frame
  pub through : ThroughFits s fit row frame
