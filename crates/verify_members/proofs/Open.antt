-- A member that may be named: it is one of the table, and meets each part of the rule.
use Rattle.std.proofs.Common.{◌≡◌, ◌<◌, ℕ, Bool, true, false, List, Option, None, length, slice_get}
use Rattle.std.proofs.lemmas.Option.{slice_get_within}
use Rattle.std.specs.Bool.{OnTrue}
use Rattle.std.specs.List.{Contains}
use Rattle.dc_base.specs.declared.names.TypeId.{TypeId}
use Rattle.dc_base.specs.declared.names.MemberId.{MemberId}
use Rattle.class_rows.specs.declared.row.TypeRow.{TypeRow}
use Rattle.class_rows.specs.declared.row.MemberRow.{MemberRow}
use Rattle.class_rows.specs.Lookups.{IsAccessible}
use Rattle.cil_rows.specs.declared.row.Row.{Row}
use Rattle.verify_slots.specs.declared.slot.Slot.{Slot}
use Rattle.verify_rules.specs.declared.setting.Setting.{Setting}
use Rattle.verify_rules.specs.Members.{IsNamed, MayBeNamed, IsReached, IsLiteral, IsFunctionOf}

pub within : (types : List TypeRow) (members : List MemberRow) (from m : ℕ) (through : Option TypeId) → IsAccessible types members from m through → m < length members
within types members from m through is = slice_get_within members m is.row is.stands

pub named : (s : Setting) (row : Row) (frame : List Slot) (m : MemberId) (member : MemberRow) (b : Bool)
    → MayBeNamed s m None → IsReached s row frame m member → (Contains s.hidden.now m → ⊥) → (IsLiteral member.kind → ⊥)
    → OnTrue b (IsFunctionOf s row frame m member) → OnTrue b (IsNamed s row frame m member)
named s row frame m member true o r h l f = record { open_ = o; reached = r; shown = h; no_literal = l; function = f }
named s row frame m member false o r h l f = tt
