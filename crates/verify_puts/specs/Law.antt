-- What is put fits exactly where each of its parts does.
use Rattle.std.specs.Prelude.{◌↔◌, List}
use Rattle.cil_rows.specs.declared.row.Row.{Row}
use Rattle.verify_slots.specs.declared.slot.Slot.{Slot}
use Rattle.verify_rules.specs.declared.setting.Setting.{Setting}
use Rattle.verify_rules.specs.Rules.{PutsFit}
use Rattle.verify_puts.specs.declared.fit.Fit.{Fit}
use Rattle.verify_puts.specs.Fits.{Fits, PartsFit}

abbrev pub PartsAreAll : Type 0
PartsAreAll = (s : Setting) (fit : Fit) (row : Row) (frame : List Slot) → PartsFit s fit row frame ↔ PutsFit s row frame (Fits s fit)
