-- What the reader of a whole expression answers.
use Rattle.std.specs.Prelude.{List, Result}
use Rattle.dc_base.specs.declared.failure.Or.{Or}
use Rattle.cs_grammar.specs.declared.fault.Fault.{Fault}
use Rattle.cs_grammar.specs.Reads.{Reads}
use Rattle.cs_token.specs.Placed.{Placed as Token}
use Rattle.cs_productions.specs.declared.values.Measured.{Measured}
use Rattle.cs_statements.specs.Jumps.{expression}
use Rattle.cs_read_calls.specs.declared.level.Depth.{Depth}
use Rattle.cs_read_calls.specs.Asked.{inner_of}

-- an expression of at most so many levels as are left
abbrev pub WholeRead : Depth → List Token → Result Measured (Or Fault) → List Token → Type 0
WholeRead d tokens result left = Reads ((expression d.left (inner_of d)).reads tokens) result left
