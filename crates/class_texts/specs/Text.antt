-- The rows that a reference text declares.
use Rattle.std.specs.Prelude.{◌≡◌, List, map}
use Rattle.dc_base.specs.declared.names.MemberId.{MemberId}
use Rattle.class_rows.specs.declared.row.TypeRow.{TypeRow}
use Rattle.class_rows.specs.declared.row.MemberRow.{MemberRow}
use Rattle.cs_tree.specs.declared.declarations.Unit.{Unit as WholeText}
use Rattle.cs_declared.specs.Types.{Placed, types_in}
use Rattle.class_written.specs.Named.{Known}
use Rattle.class_written.specs.Forms.{known}
use Rattle.class_written.specs.TypeRows.{type_row}
use Rattle.class_texts.specs.declared.row.Row.{Row}
use Rattle.class_texts.specs.MemberRows.{rows_from}
use Rattle.class_texts.specs.Pairs.{ArePairs}

abbrev pub known_types : List Placed → List Known
known_types types = map known types

abbrev pub rows_of : List Placed → List Row
rows_of types = rows_from (known_types types) 0 types

abbrev pub members_of : List Placed → List MemberRow
members_of types = map (λ (r : Row). r.row) (rows_of types)

-- types in the text's order; members type by type, each type's in the text's order; and which of them implement by name what
pub record AreRowsOf (unit : WholeText) (rows : List TypeRow) (members : List MemberRow) (explicit : List (MemberId × MemberId)) : Type 0 where
  pub types : rows ≡ map (type_row (known_types (types_in unit))) (types_in unit)
  pub those : members ≡ members_of (types_in unit)
  pub pairs : ArePairs (known_types (types_in unit)) (rows_of (types_in unit)) explicit
