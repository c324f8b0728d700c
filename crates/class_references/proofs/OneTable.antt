-- A text has one answer.
use Rattle.std.proofs.Common.{ℕ, List, [], ◌∷◌, Ok, Err, refl, ap, subst}
use Rattle.dc_base.specs.declared.names.MemberId.{MemberId}
use Rattle.dc_causes.specs.Step.{go}
use Rattle.dc_causes.specs.Answer.{IsSingle}
use Rattle.dc_causes.proofs.Single.{err_is, not_both, single-test, single-then, single-told, single-in_order, single-least, single-rounds}
use Rattle.class_rows.specs.declared.row.TypeRow.{TypeRow}
use Rattle.class_rows.specs.declared.row.MemberRow.{MemberRow}
use Rattle.class_rows.specs.declared.fault.TableFault.{TableFault}
use Rattle.class_rows.specs.Table.{IsClassTable, Part, chains, names, members, bases, core, interfaces, Asked, MakeTable}
use Rattle.cs_tree.specs.declared.declarations.Unit.{Unit as WholeText}
use Rattle.cs_read_texts.proofs.OneText.{has_one_reference}
use Rattle.class_texts.specs.Text.{AreRowsOf}
use Rattle.class_table.specs.Rows.{Rows}
use Rattle.class_references.specs.declared.fault.RefFault.TheVariants as fault
use Rattle.class_references.specs.References.{IsReadAs, MakesTable}
use Rattle.class_references.specs.Laws.{HasOneTable}
use Rattle.class_references.proofs.OnePairing.{one_list}

-- rows make a table or have one fault

one_part : (ts : List TypeRow) (ms : List MemberRow) (es : List (MemberId × MemberId)) (p : Part) → IsSingle (Asked ts ms es p)
one_part ts ms es chains = single-rounds _ (λ t. single-test _ _)
one_part ts ms es names = single-least _ _
one_part ts ms es members = single-least _ _
one_part ts ms es bases = single-rounds _ (λ t. single-test _ _)
one_part ts ms es core = single-least _ _
one_part ts ms es interfaces = single-rounds _ (λ c. single-least _ _)

one_fault : (ts : List TypeRow) (ms : List MemberRow) (es : List (MemberId × MemberId)) → IsSingle (MakeTable ts ms es)
one_fault ts ms es = single-in_order (Asked ts ms es) (one_part ts ms es) (chains ∷ names ∷ members ∷ bases ∷ core ∷ interfaces ∷ [])

made : (ts : List TypeRow) (ms : List MemberRow) (es : List (MemberId × MemberId)) → IsClassTable ts ms es → MakeTable ts ms es (Ok tt)
made ts ms es is =
    go tt (λ t. (is.chains_end.bases t, is.chains_end.outers t))
    (go tt is.names_are_unique
    (go tt is.members_are_unique (go tt is.bases_are_there (go tt is.core_is_there (go tt is.interfaces_are_implemented refl)))))

-- so does a tree

abbrev Faults : Rows → TableFault → Type 0
Faults rows f = MakeTable rows.types rows.members rows.explicit (Err f)

table_or_fault : (unit : WholeText) (a b : Rows) (f : TableFault) → AreRowsOf unit a.types a.members a.explicit → IsClassTable a.types a.members a.explicit → AreRowsOf unit b.types b.members b.explicit → Faults b f → ⊥
table_or_fault unit a b f p is q fails =
    not_both tt f (one_fault a.types a.members a.explicit (Ok tt) (Err f) (made a.types a.members a.explicit is) (subst (λ (rows : Rows). Faults rows f) (one_list unit b a q p) fails))

makes_one : (unit : WholeText) → IsSingle (MakesTable unit)
makes_one unit (Ok a) (Ok b) p q = ap Ok (one_list unit a b p.0 q.0)
makes_one unit (Ok a) (Err g) p q = absurd (table_or_fault unit a q.0 g p.0 p.1 q.1 q.2)
makes_one unit (Err f) (Ok b) p q = absurd (table_or_fault unit b p.0 f q.0 q.1 p.1 p.2)
makes_one unit (Err f) (Err g) p q =
    ap Err
    (err_is f g
    (one_fault p.0.types p.0.members p.0.explicit (Err f) (Err g) p.2 (subst (λ (rows : Rows). Faults rows g) (one_list unit q.0 p.0 q.1 p.1) q.2)))

-- and a text

reads_one : (text : List ℕ) → IsSingle (IsReadAs text)
reads_one text r s a b = has_one_reference 33 200 text r s a b

pub has_one_table : HasOneTable
has_one_table text = single-then _ _ (single-told fault.Read (IsReadAs text) (reads_one text)) (λ unit _. single-told fault.Types (MakesTable unit) (makes_one unit))
