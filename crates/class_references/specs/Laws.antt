-- What follows of the definitions.
use Rattle.std.specs.Prelude.{◌≡◌, ℕ, ◌<◌, ◌^◌, List, Some, length, slice_get}
use Rattle.dc_base.specs.declared.names.TypeId.{TypeId}
use Rattle.dc_base.specs.declared.names.MemberId.{MemberId}
use Rattle.dc_causes.specs.Answer.{IsSingle}
use Rattle.class_rows.specs.declared.row.TypeRow.{TypeRow}
use Rattle.class_rows.specs.declared.row.MemberRow.{MemberRow}
use Rattle.cs_tree.specs.declared.declarations.Unit.{Unit as WholeText}
use Rattle.cs_declared.specs.Types.{Placed, types_in}
use Rattle.class_texts.specs.Text.{AreRowsOf}
use Rattle.class_table.specs.Buildable.{IsBuildable}
use Rattle.class_references.specs.References.{IsReference}

-- a text has one answer
abbrev pub HasOneTable : Type 0
HasOneTable = (text : List ℕ) → IsSingle (IsReference text)

-- each type that is nested in another stands behind it
abbrev pub OutersStandBefore : List Placed → Type 0
OutersStandBefore types = (t : ℕ) (p : Placed) → slice_get types t ≡ Some p → (o : TypeId) → p.outer ≡ Some o → o.0 < t

abbrev pub TypesStandBehindTheirs : Type 0
TypesStandBehindTheirs = (unit : WholeText) → OutersStandBefore (types_in unit)

-- a table may be built of the rows of a tree, where there are numbers for all of them
abbrev pub TextsAreBuildable : Type 0
TextsAreBuildable =
    (unit : WholeText) (types : List TypeRow) (members : List MemberRow) (explicit : List (MemberId × MemberId))
    → AreRowsOf unit types members explicit → length types < 2 ^ 32 → length members < 2 ^ 32 → length explicit < 2 ^ 32
    → IsBuildable types members explicit
