-- What a reference text is: the class table of the types and members that it declares, or its first fault (ECMA-334, clauses 14 to 20;
-- ECMA-335 II.8, II.10). The faults of the text come before those of the table.
use Rattle.std.specs.Prelude.{ℕ, List, Ok, Err}
use Rattle.dc_causes.specs.Step.{Step, Then, Told}
use Rattle.cs_token.specs.Placed.{Placed as Token}
use Rattle.cs_grammar.specs.Grammar.{Grammar}
use Rattle.cs_tree.specs.declared.declarations.Unit.{Unit as WholeText}
use Rattle.cs_references.specs.Declarations.{text_at}
use Rattle.cs_read_texts.specs.declared.fault.ReadFault.{ReadFault}
use Rattle.cs_read_texts.specs.Texts.{IsAnswer}
use Rattle.class_rows.specs.declared.fault.TableFault.{TableFault}
use Rattle.class_rows.specs.Table.{IsClassTable, MakeTable}
use Rattle.class_texts.specs.Text.{AreRowsOf}
use Rattle.class_table.specs.Rows.{Rows}
use Rattle.class_references.specs.declared.fault.RefFault.{RefFault}
use Rattle.class_references.specs.declared.fault.RefFault.TheVariants as fault

-- the grammar: a type has at most 33 pairs of brackets, and in a type that is nested in none at most 200 are open in one another
abbrev pub grammar : Grammar Token WholeText
grammar = text_at 33 200

-- the same with a pair of brackets more and a type more: where these go on, the fault is one of depth
abbrev pub wider : Grammar Token WholeText
wider = text_at 34 201

-- the tree of the text, or the first place with which no reference text goes on
abbrev pub IsReadAs : List ℕ → Step WholeText ReadFault
IsReadAs text = IsAnswer grammar wider text

-- the rows that a tree declares, where they make a class table; else the fault of the first part that fails
abbrev pub MakesTable : WholeText → Step Rows TableFault
MakesTable unit (Ok rows) =
    AreRowsOf unit rows.types rows.members rows.explicit × IsClassTable rows.types rows.members rows.explicit
MakesTable unit (Err f) =
    (rows : Rows) × AreRowsOf unit rows.types rows.members rows.explicit × MakeTable rows.types rows.members rows.explicit (Err f)

-- the text is read, and what is read of it makes a table
abbrev pub IsReference : List ℕ → Step Rows RefFault
IsReference text = Then (Told fault.Read (IsReadAs text)) (λ unit. Told fault.Types (MakesTable unit))
