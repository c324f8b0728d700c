use Rattle.std.proofs.Common.{◌≡◌, ◌-◌, rules, [], ◌∷◌, sym, ◌∙◌, nat_lt, Err, arith}
use Rattle.std.proofs.lemmas.Bool.{lt-ltb}
use Rattle.cs_productions.specs.declared.values.Measured.{Measured}
use Rattle.cs_grammar.proofs.Turns.{round_on, stop}
use Rattle.cs_productions.specs.Kinds.{dot, bracket}
use Rattle.cs_productions.specs.Tokens.{kind}
use Rattle.cs_productions.specs.Calls.{one_postfix, postfixes}
use Rattle.cs_read_types.proofs.Looping.{deep_on, fail_on, fails_too, not_below}
use Rattle.cs_read_calls.specs.Asked.{inner_of}
use Rattle.cs_read_calls.proofs.level.Level.postfixes.Goals as goal

pub turns-preserved : goal.turns-preserved
turns-preserved g c =
    let at = c.args.self.now.at in
    c.turns.invariant
    ∙ round_on kind (dot ∷ bracket ∷ []) (λ (b : Measured). nat_lt b.height at.left) (one_postfix at.left (inner_of at)) c.left-end.result c.turns.counter c.turns.a c.in_ok-a.a c.turns.tokens c.one_postfix.new.tokens (omega arith) (sym c.begins.ensures ∙ c.if-not-begins.false) (lt-ltb c.turns.a.height at.left (omega arith)) c.in_ok-a.ensures

pub returns-then-not-begins : goal.returns-then-not-begins
returns-then-not-begins g c =
    let at = c.args.self.now.at in
    c.turns.invariant
    ∙ stop kind (dot ∷ bracket ∷ []) (λ (b : Measured). nat_lt b.height at.left) (one_postfix at.left (inner_of at)) (c.left-end.result - c.turns.counter) c.turns.a c.turns.tokens (sym c.begins.ensures ∙ c.if-not-begins.true)

pub returns-in_err-a : goal.returns-in_err-a
returns-in_err-a g c =
    let at = c.args.self.now.at in
    let is : c.from_residual.result ≡ Err c.in_err-a.field-0.0 = search rules in
    rw is
    (fails_too ((one_postfix at.left (inner_of at) c.turns.a).reads c.turns.tokens) ((postfixes at.left (inner_of at) c.args.first).reads c.args.tokens.now) c.in_err-a.field-0.0 c.one_postfix.new.tokens c.in_err-a.ensures
    (λ deep h. c.turns.invariant
    ∙ fail_on kind (dot ∷ bracket ∷ []) (λ (b : Measured). nat_lt b.height at.left) (one_postfix at.left (inner_of at)) c.left-end.result c.turns.counter c.turns.a c.turns.tokens deep c.one_postfix.new.tokens (omega arith) (sym c.begins.ensures ∙ c.if-not-begins.false) (lt-ltb c.turns.a.height at.left (omega arith)) h))

pub returns-then-a-from : goal.returns-then-a-from
returns-then-a-from g c =
    let at = c.args.self.now.at in
    rw c.too_deep.ensures
    (c.turns.invariant
    ∙ deep_on kind (dot ∷ bracket ∷ []) (λ (b : Measured). nat_lt b.height at.left) (one_postfix at.left (inner_of at)) c.left-end.result c.turns.counter c.turns.a c.turns.tokens (omega arith) (sym c.begins.ensures ∙ c.if-not-begins.false) (not_below c.turns.a.height at.left (omega arith)))
