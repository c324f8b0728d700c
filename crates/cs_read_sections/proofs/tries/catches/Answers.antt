use Rattle.std.proofs.Common.{◌≡◌, ◌-◌, rules, true, [], ◌∷◌, refl, sym, ◌∙◌, Err, arith}
use Rattle.cs_grammar.specs.Grammar.{turns}
use Rattle.cs_grammar.proofs.Turns.{round_on, stop}
use Rattle.cs_productions.specs.Kinds.{kw_catch}
use Rattle.cs_productions.specs.Tokens.{kind}
use Rattle.cs_statements.specs.Structured.{one_more_catching}
use Rattle.cs_read_types.proofs.Looping.{fail_on, fails_too}
use Rattle.cs_read_calls.specs.Asked.{inner_of}
use Rattle.cs_read_sections.proofs.tries.catches.Goals as goal

pub turns-preserved : goal.turns-preserved
turns-preserved g c =
    let at = c.args.level.now.at in
    c.turns.invariant
    ∙ round_on kind (kw_catch ∷ []) (λ _. true) (one_more_catching (inner_of at)) c.left-end.result c.turns.counter c.turns.catches c.in_ok-catches.catches c.turns.tokens c.one_more_catching.new.tokens (omega arith) (sym c.begins.ensures ∙ c.if-not-begins.false) refl c.in_ok-catches.ensures

pub returns-then-not-begins : goal.returns-then-not-begins
returns-then-not-begins g c =
    let at = c.args.level.now.at in
    c.turns.invariant
    ∙ stop kind (kw_catch ∷ []) (λ _. true) (one_more_catching (inner_of at)) (c.left-end.result - c.turns.counter) c.turns.catches c.turns.tokens (sym c.begins.ensures ∙ c.if-not-begins.true)

pub returns-in_err-catches : goal.returns-in_err-catches
returns-in_err-catches g c =
    let at = c.args.level.now.at in
    let is : c.from_residual.result ≡ Err c.in_err-catches.field-0.0 = search rules in
    rw is
    (fails_too (((one_more_catching (inner_of at)) c.turns.catches).reads c.turns.tokens) ((turns kind (kw_catch ∷ []) (λ _. true) (one_more_catching (inner_of at)) []).reads c.args.tokens.now) c.in_err-catches.field-0.0 c.one_more_catching.new.tokens c.in_err-catches.ensures
    (λ deep h. c.turns.invariant
    ∙ fail_on kind (kw_catch ∷ []) (λ _. true) (one_more_catching (inner_of at)) c.left-end.result c.turns.counter c.turns.catches c.turns.tokens deep c.one_more_catching.new.tokens (omega arith) (sym c.begins.ensures ∙ c.if-not-begins.false) refl h))
