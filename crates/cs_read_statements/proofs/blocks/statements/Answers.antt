use Rattle.std.proofs.Common.{◌≡◌, ◌-◌, rules, true, [], refl, sym, ◌∙◌, Err, arith}
use Rattle.cs_grammar.specs.Grammar.{turns}
use Rattle.cs_grammar.proofs.Turns.{round_on, stop}
use Rattle.cs_statements.specs.Kinds.{statement_kinds}
use Rattle.cs_productions.specs.Tokens.{kind}
use Rattle.cs_statements.specs.Blocks.{statement, one_more_statement}
use Rattle.cs_read_types.proofs.Looping.{fail_on, fails_too}
use Rattle.cs_read_calls.specs.Asked.{inner_of}
use Rattle.cs_read_statements.proofs.Faults.{fault_of}
use Rattle.cs_read_statements.proofs.blocks.statements.Goals as goal

pub turns-preserved : goal.turns-preserved
turns-preserved g c =
    let at = c.args.here.now.level.at in
    c.turns.invariant
    ∙ round_on kind statement_kinds (λ _. true) (one_more_statement (statement at.left (inner_of at))) c.left-end.result c.turns.counter c.turns.stmts c.in_ok-stmts.stmts c.turns.tokens c.one_more_statement.new.tokens (omega arith) (sym c.begins.ensures ∙ c.if-not-begins.false) refl c.in_ok-stmts.ensures

pub returns-then-not-begins : goal.returns-then-not-begins
returns-then-not-begins g c =
    let at = c.args.here.now.level.at in
    c.turns.invariant
    ∙ stop kind statement_kinds (λ _. true) (one_more_statement (statement at.left (inner_of at))) (c.left-end.result - c.turns.counter) c.turns.stmts c.turns.tokens (sym c.begins.ensures ∙ c.if-not-begins.true)

pub returns-in_err-stmts : goal.returns-in_err-stmts
returns-in_err-stmts g c =
    let at = c.args.here.now.level.at in
    let is : c.from_residual.result ≡ Err c.in_err-stmts.field-0.0 = search rules in
    fault_of ((turns kind statement_kinds (λ _. true) (one_more_statement (statement at.left (inner_of at))) []).reads c.args.tokens.now) c.in_err-stmts.field-0.0 c.from_residual.result c.one_more_statement.new.tokens is
    (fails_too (((one_more_statement (statement at.left (inner_of at))) c.turns.stmts).reads c.turns.tokens) ((turns kind statement_kinds (λ _. true) (one_more_statement (statement at.left (inner_of at))) []).reads c.args.tokens.now) c.in_err-stmts.field-0.0 c.one_more_statement.new.tokens c.in_err-stmts.ensures
    (λ deep h. c.turns.invariant
    ∙ fail_on kind statement_kinds (λ _. true) (one_more_statement (statement at.left (inner_of at))) c.left-end.result c.turns.counter c.turns.stmts c.turns.tokens deep c.one_more_statement.new.tokens (omega arith) (sym c.begins.ensures ∙ c.if-not-begins.false) refl h))
