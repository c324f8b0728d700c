-- So far the expression is what is read in the rounds that are left.
use Rattle.std.proofs.Common.{◌≡◌, ◌-◌, nat_lt}
use Rattle.cs_productions.specs.declared.values.Measured.{Measured}
use Rattle.cs_grammar.specs.Grammar.{read_rounds}
use Rattle.cs_productions.specs.Tokens.{kind}
use Rattle.cs_productions.specs.Operators.{one_binary, binaries}
use Rattle.cs_read_calls.specs.Asked.{inner_of}
use Rattle.cs_read_operators.proofs.operators.binaries.Given as goal

abbrev pub invariant-turns : goal.invariant-turns
invariant-turns g l =
    (binaries l.level.at.left (inner_of l.level.at) l.operators l.right l.fn.first).reads l.fn.tokens ≡ read_rounds kind l.operators (λ (b : Measured). nat_lt b.height l.level.at.left) (one_binary (inner_of l.level.at) l.operators l.right) (l.end - l.counter) l.left l.tokens
