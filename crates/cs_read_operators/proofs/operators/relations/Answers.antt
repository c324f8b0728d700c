use Rattle.std.proofs.Common.{◌≡◌, ◌-◌, rules, sym, ◌∙◌, nat_lt, Err, arith}
use Rattle.std.proofs.lemmas.Bool.{lt-ltb}
use Rattle.cs_productions.specs.declared.values.Measured.{Measured}
use Rattle.cs_grammar.proofs.Turns.{round_on, stop}
use Rattle.cs_productions.specs.Kinds.{relational_operators}
use Rattle.cs_productions.specs.Tokens.{kind}
use Rattle.cs_productions.specs.Operators.{one_relation, relations}
use Rattle.cs_read_types.proofs.Looping.{deep_on, fail_on, fails_too, not_below}
use Rattle.cs_read_calls.specs.Asked.{inner_of}
use Rattle.cs_read_operators.proofs.operators.relations.Goals as goal

pub turns-preserved : goal.turns-preserved
turns-preserved g c =
    let at = c.args.level.now.at in
    c.turns.invariant
    ∙ round_on kind relational_operators (λ (b : Measured). nat_lt b.height at.left) (one_relation (inner_of at)) c.left-end.result c.turns.counter c.turns.left c.in_ok-left.left c.turns.tokens c.one_relation.new.tokens (omega arith) (sym c.begins.ensures ∙ c.if-not-begins.false) (lt-ltb c.turns.left.height at.left (omega arith)) c.in_ok-left.ensures

pub returns-then-not-begins : goal.returns-then-not-begins
returns-then-not-begins g c =
    let at = c.args.level.now.at in
    c.turns.invariant
    ∙ stop kind relational_operators (λ (b : Measured). nat_lt b.height at.left) (one_relation (inner_of at)) (c.left-end.result - c.turns.counter) c.turns.left c.turns.tokens (sym c.begins.ensures ∙ c.if-not-begins.true)

pub returns-in_err-left : goal.returns-in_err-left
returns-in_err-left g c =
    let at = c.args.level.now.at in
    let is : c.from_residual.result ≡ Err c.in_err-left.field-0.0 = search rules in
    rw is
    (fails_too ((one_relation (inner_of at) c.turns.left).reads c.turns.tokens) ((relations at.left (inner_of at) c.args.first).reads c.args.tokens.now) c.in_err-left.field-0.0 c.one_relation.new.tokens c.in_err-left.ensures
    (λ deep h. c.turns.invariant
    ∙ fail_on kind relational_operators (λ (b : Measured). nat_lt b.height at.left) (one_relation (inner_of at)) c.left-end.result c.turns.counter c.turns.left c.turns.tokens deep c.one_relation.new.tokens (omega arith) (sym c.begins.ensures ∙ c.if-not-begins.false) (lt-ltb c.turns.left.height at.left (omega arith)) h))

pub returns-then-left-from : goal.returns-then-left-from
returns-then-left-from g c =
    let at = c.args.level.now.at in
    rw c.too_deep.ensures
    (c.turns.invariant
    ∙ deep_on kind relational_operators (λ (b : Measured). nat_lt b.height at.left) (one_relation (inner_of at)) c.left-end.result c.turns.counter c.turns.left c.turns.tokens (omega arith) (sym c.begins.ensures ∙ c.if-not-begins.false) (not_below c.turns.left.height at.left (omega arith)))
