use Rattle.std.proofs.Common.{◌≡◌, ◌-◌, rules, true, [], ◌∷◌, refl, sym, ◌∙◌, Err, arith}
use Rattle.cs_grammar.proofs.Turns.{round_on, stop}
use Rattle.cs_productions.specs.Kinds.{comma}
use Rattle.cs_productions.specs.Tokens.{kind}
use Rattle.cs_productions.specs.Types.{one_more_param, more_params}
use Rattle.cs_read_types.proofs.Looping.{fail_on, fails_too}
use Rattle.cs_read_types.proofs.types.more_params.Goals as goal

pub turns-preserved : goal.turns-preserved
turns-preserved c =
    c.turns.invariant
    ∙ round_on kind (comma ∷ []) (λ _. true) (one_more_param c.args.limit) c.left-end.result c.turns.counter c.turns.params c.in_ok-params.params c.turns.tokens c.one_more_param.new.tokens (omega arith) (sym c.begins.ensures ∙ c.if-not-begins.false) refl c.in_ok-params.ensures

pub returns-then-not-begins : goal.returns-then-not-begins
returns-then-not-begins c =
    c.turns.invariant
    ∙ stop kind (comma ∷ []) (λ _. true) (one_more_param c.args.limit) (c.left-end.result - c.turns.counter) c.turns.params c.turns.tokens (sym c.begins.ensures ∙ c.if-not-begins.true)

pub returns-in_err-params : goal.returns-in_err-params
returns-in_err-params c =
    let is : c.from_residual.result ≡ Err c.in_err-params.field-0.0 = search rules in
    rw is
    (fails_too ((one_more_param c.args.limit c.turns.params).reads c.turns.tokens) ((more_params c.args.limit c.args.first).reads c.args.tokens.now) c.in_err-params.field-0.0 c.one_more_param.new.tokens c.in_err-params.ensures
    (λ deep h. c.turns.invariant
    ∙ fail_on kind (comma ∷ []) (λ _. true) (one_more_param c.args.limit) c.left-end.result c.turns.counter c.turns.params c.turns.tokens deep c.one_more_param.new.tokens (omega arith) (sym c.begins.ensures ∙ c.if-not-begins.false) refl h))
