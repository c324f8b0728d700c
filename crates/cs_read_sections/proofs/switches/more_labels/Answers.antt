use Rattle.std.proofs.Common.{◌≡◌, ◌-◌, rules, true, [], ◌∷◌, refl, sym, ◌∙◌, Err, arith}
use Rattle.cs_grammar.specs.Grammar.{turns}
use Rattle.cs_grammar.proofs.Turns.{round_on, stop}
use Rattle.cs_productions.specs.Kinds.{kw_case, kw_default}
use Rattle.cs_productions.specs.Tokens.{kind}
use Rattle.cs_statements.specs.Structured.{one_more_label}
use Rattle.cs_read_types.proofs.Looping.{fail_on, fails_too}
use Rattle.cs_read_sections.proofs.switches.more_labels.Goals as goal

pub turns-preserved : goal.turns-preserved
turns-preserved c =
    c.turns.invariant
    ∙ round_on kind (kw_case ∷ kw_default ∷ []) (λ _. true) one_more_label c.left-end.result c.turns.counter c.turns.labels c.in_ok-labels.labels c.turns.tokens c.one_more_label.new.tokens (omega arith) (sym c.begins.ensures ∙ c.if-not-begins.false) refl c.in_ok-labels.ensures

pub returns-then-not-begins : goal.returns-then-not-begins
returns-then-not-begins c =
    c.turns.invariant
    ∙ stop kind (kw_case ∷ kw_default ∷ []) (λ _. true) one_more_label (c.left-end.result - c.turns.counter) c.turns.labels c.turns.tokens (sym c.begins.ensures ∙ c.if-not-begins.true)

pub returns-in_err-labels : goal.returns-in_err-labels
returns-in_err-labels c =
    let is : c.from_residual.result ≡ Err c.in_err-labels.field-0.0 = search rules in
    rw is
    (fails_too ((one_more_label c.turns.labels).reads c.turns.tokens) ((turns kind (kw_case ∷ kw_default ∷ []) (λ _. true) one_more_label c.args.first).reads c.args.tokens.now) c.in_err-labels.field-0.0 c.one_more_label.new.tokens c.in_err-labels.ensures
    (λ deep h. c.turns.invariant
    ∙ fail_on kind (kw_case ∷ kw_default ∷ []) (λ _. true) one_more_label c.left-end.result c.turns.counter c.turns.labels c.turns.tokens deep c.one_more_label.new.tokens (omega arith) (sym c.begins.ensures ∙ c.if-not-begins.false) refl h))
