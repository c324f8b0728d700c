-- Inner facts: the rows that a text declares.
use Rattle.std.specs.Prelude.{ℕ, List, Ok}
use Rattle.dc_base.specs.declared.names.MemberId.{MemberId}
use Rattle.class_rows.specs.declared.row.TypeRow.{TypeRow}
use Rattle.class_rows.specs.declared.row.MemberRow.{MemberRow}
use Rattle.cs_tree.specs.declared.declarations.Unit.{Unit as WholeText}
use Rattle.class_texts.specs.Text.{AreRowsOf}
use Rattle.class_references.specs.References.{IsReadAs}

-- those of the tree that the text is
abbrev pub AreRowsIn : List ℕ → List TypeRow → List MemberRow → List (MemberId × MemberId) → Type 0
AreRowsIn text types members explicit =
    (unit : WholeText) × IsReadAs text (Ok unit) × AreRowsOf unit types members explicit
