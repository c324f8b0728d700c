-- What a text is, from what its parts are.
use Rattle.std.proofs.Common.{◌≡◌, ◌∙◌, ℕ, List, Ok, Err, refl, sym, subst}
use Rattle.dc_base.specs.declared.failure.Or.{Or}
use Rattle.dc_base.specs.declared.failure.Or.TheVariants.{NoMemory, Fault as WithFault}
use Rattle.dc_base.specs.declared.names.MemberId.{MemberId}
use Rattle.dc_causes.specs.Answer.{OnFault}
use Rattle.dc_causes.specs.Step.{go, stop, Told}
use Rattle.class_rows.specs.declared.row.TypeRow.{TypeRow}
use Rattle.class_rows.specs.declared.row.MemberRow.{MemberRow}
use Rattle.class_rows.specs.declared.fault.TableFault.{TableFault}
use Rattle.class_rows.specs.Table.{IsClassTable, MakeTable}
use Rattle.cs_tree.specs.declared.declarations.Unit.{Unit as WholeText}
use Rattle.cs_declared.specs.Types.{types_in}
use Rattle.class_texts.specs.Pairs.{ArePairs}
use Rattle.class_texts.specs.Text.{known_types, rows_of, AreRowsOf}
use Rattle.class_table.specs.Rows.{Rows}
use Rattle.class_references.specs.declared.fault.RefFault.{RefFault}
use Rattle.class_references.specs.declared.fault.RefFault.TheVariants as fault
use Rattle.class_references.specs.References.{IsReadAs, IsReference}
use Rattle.class_references.specs.TextRows.{AreRowsIn}

pub fault_of_text : (text : List ℕ) (e : Or RefFault) → OnFault (Told fault.Read (IsReadAs text)) e → OnFault (IsReference text) e
fault_of_text text NoMemory is = tt
fault_of_text text (WithFault f) is = stop f is refl

pub fault_of_rows : (text : List ℕ) (types : List TypeRow) (members : List MemberRow) (explicit : List (MemberId × MemberId)) (f : TableFault) → AreRowsIn text types members explicit → MakeTable types members explicit (Err f) → IsReference text (Err (fault.Types f))
fault_of_rows text types members explicit f rows fails =
    go rows.0 rows.1 (f, (record { types = types; members = members; explicit = explicit }, rows.2, fails), refl)

same_rows : (unit : WholeText) (types : List TypeRow) (members : List MemberRow) (explicit : List (MemberId × MemberId)) (table : Rows) → (table.types ≡ types) × (table.members ≡ members) × (table.explicit ≡ explicit) → AreRowsOf unit types members explicit → AreRowsOf unit table.types table.members table.explicit
same_rows unit types members explicit table same rows =
    record {
      types = same.0 ∙ rows.types;
      those = same.1 ∙ rows.those;
      pairs = subst (λ (es : List (MemberId × MemberId)). ArePairs (known_types (types_in unit)) (rows_of (types_in unit)) es) (sym same.2) rows.pairs;
    }

pub table_of_rows : (text : List ℕ) (types : List TypeRow) (members : List MemberRow) (explicit : List (MemberId × MemberId)) (table : Rows) → AreRowsIn text types members explicit → (table.types ≡ types) × (table.members ≡ members) × (table.explicit ≡ explicit) → IsClassTable table.types table.members table.explicit → IsReference text (Ok table)
table_of_rows text types members explicit table rows same is =
    go rows.0 rows.1 (same_rows rows.0 types members explicit table same rows.2, is)
