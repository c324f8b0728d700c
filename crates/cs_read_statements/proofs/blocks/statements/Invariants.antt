-- So far the statements are what is read in the rounds that are left.
use Rattle.std.proofs.Common.{◌≡◌, ◌-◌, true, []}
use Rattle.cs_grammar.specs.Grammar.{turns, read_rounds}
use Rattle.cs_statements.specs.Kinds.{statement_kinds}
use Rattle.cs_productions.specs.Tokens.{kind}
use Rattle.cs_statements.specs.Blocks.{statement, one_more_statement}
use Rattle.cs_read_calls.specs.Asked.{inner_of}
use Rattle.cs_read_statements.proofs.blocks.statements.Given as goal

abbrev pub invariant-turns : goal.invariant-turns
invariant-turns g l =
    (turns kind statement_kinds (λ _. true) (one_more_statement (statement l.here.level.at.left (inner_of l.here.level.at))) []).reads l.fn.tokens ≡ read_rounds kind statement_kinds (λ _. true) (one_more_statement (statement l.here.level.at.left (inner_of l.here.level.at))) (l.end - l.counter) l.stmts l.tokens
