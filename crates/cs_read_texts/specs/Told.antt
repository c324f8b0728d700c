-- Inner facts: the answer for a text, from what was read of its tokens.
use Rattle.std.specs.Prelude.{cond, List, [], ◌∷◌, Result, Ok, Err}
use Rattle.dc_base.specs.declared.failure.Or.{Or}
use Rattle.dc_base.specs.declared.failure.Or.TheVariants.{NoMemory, Fault as WithFault}
use Rattle.cs_token.specs.Placed.{Placed as Token}
use Rattle.cs_lex.specs.declared.cuts.End.{End}
use Rattle.cs_tree.specs.declared.declarations.Unit.{Unit as WholeText}
use Rattle.cs_grammar.specs.declared.fault.Fault.{Fault}
use Rattle.cs_grammar.specs.declared.fault.Fault.TheVariants.{Unexpected, TooDeep}
use Rattle.cs_read_texts.specs.declared.fault.ReadFault.{ReadFault}
use Rattle.cs_read_texts.specs.declared.fault.ReadFault.TheVariants.{Lex, Parse, Deep}

abbrev pub at_end : End → ReadFault
at_end end = cond end.whole (Parse end.line end.column) (Lex end.line end.column)

abbrev pub at_token : Fault → Token → ReadFault
at_token Unexpected next = Parse next.line next.column
at_token TooDeep next = Deep next.line next.column

abbrev pub fault_of : End → List Token → Fault → ReadFault
fault_of end [] fault = at_end end
fault_of end (next ∷ left) fault = at_token fault next

abbrev pub whole_of : End → List Token → WholeText → Result WholeText (Or ReadFault)
whole_of end [] unit = cond end.whole (Ok unit) (Err (WithFault (Lex end.line end.column)))
whole_of end (next ∷ left) unit = Err (WithFault (Parse next.line next.column))

abbrev pub told : End → List Token → Result WholeText (Or Fault) → Result WholeText (Or ReadFault)
told end left (Ok unit) = whole_of end left unit
told end left (Err (WithFault fault)) = Err (WithFault (fault_of end left fault))
told end left (Err NoMemory) = Err NoMemory
