-- So far the expression is what is read in the rounds that are left.
use Rattle.std.proofs.Common.{◌≡◌, ◌-◌, nat_lt}
use Rattle.cs_productions.specs.declared.values.Measured.{Measured}
use Rattle.cs_grammar.specs.Grammar.{read_rounds}
use Rattle.cs_productions.specs.Kinds.{relational_operators}
use Rattle.cs_productions.specs.Tokens.{kind}
use Rattle.cs_productions.specs.Operators.{one_relation, relations}
use Rattle.cs_read_calls.specs.Asked.{inner_of}
use Rattle.cs_read_operators.proofs.operators.relations.Given as goal

abbrev pub invariant-turns : goal.invariant-turns
invariant-turns g l =
    (relations l.level.at.left (inner_of l.level.at) l.fn.first).reads l.fn.tokens ≡ read_rounds kind relational_operators (λ (b : Measured). nat_lt b.height l.level.at.left) (one_relation (inner_of l.level.at)) (l.end - l.counter) l.left l.tokens
