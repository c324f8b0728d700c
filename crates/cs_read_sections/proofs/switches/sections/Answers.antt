use Rattle.std.proofs.Common.{◌≡◌, ◌-◌, nat_lt, [], ◌∷◌, sym, ◌∙◌, Err, arith}
use Rattle.std.proofs.lemmas.Bool.{lt-ltb}
use Rattle.std.proofs.lemmas.Result.{err_from_is_err_and}
use Rattle.cs_grammar.specs.Grammar.{turns}
use Rattle.cs_grammar.proofs.Turns.{round_on, stop}
use Rattle.cs_productions.specs.Kinds.{kw_case, kw_default}
use Rattle.cs_productions.specs.Tokens.{kind}
use Rattle.cs_statements.specs.Structured.{one_more_section}
use Rattle.cs_read_types.proofs.Looping.{deep_on, fail_on, fails_too, not_below}
use Rattle.cs_read_calls.specs.Asked.{inner_of}
use Rattle.cs_read_sections.proofs.switches.sections.Goals as goal

pub turns-preserved : goal.turns-preserved
turns-preserved g c =
    let at = c.args.level.now.at in
    c.turns.invariant
    ∙ round_on kind (kw_case ∷ kw_default ∷ []) (λ _. nat_lt 0 (inner_of at).blocks) (one_more_section (inner_of at)) c.left-end.result c.turns.counter c.turns.sections c.in_ok-sections.sections c.turns.tokens c.one_more_section.new.tokens (omega arith) (sym c.begins.ensures ∙ c.if-not-begins.false) (lt-ltb 0 (inner_of at).blocks (omega arith)) c.in_ok-sections.ensures

pub returns-then-not-begins : goal.returns-then-not-begins
returns-then-not-begins g c =
    let at = c.args.level.now.at in
    c.turns.invariant
    ∙ stop kind (kw_case ∷ kw_default ∷ []) (λ _. nat_lt 0 (inner_of at).blocks) (one_more_section (inner_of at)) (c.left-end.result - c.turns.counter) c.turns.sections c.turns.tokens (sym c.begins.ensures ∙ c.if-not-begins.true)

pub returns-in_err-sections : goal.returns-in_err-sections
returns-in_err-sections g c =
    let at = c.args.level.now.at in
    let known = err_from_is_err_and c.from_residual.result c.from_residual.ensures.1 in
    let is : c.from_residual.result ≡ Err c.in_err-sections.field-0.0 = cc (known.1, known.2) in
    rw is
    (fails_too (((one_more_section (inner_of at)) c.turns.sections).reads c.turns.tokens) ((turns kind (kw_case ∷ kw_default ∷ []) (λ _. nat_lt 0 (inner_of at).blocks) (one_more_section (inner_of at)) []).reads c.args.tokens.now) c.in_err-sections.field-0.0 c.one_more_section.new.tokens c.in_err-sections.ensures
    (λ deep h. c.turns.invariant
    ∙ fail_on kind (kw_case ∷ kw_default ∷ []) (λ _. nat_lt 0 (inner_of at).blocks) (one_more_section (inner_of at)) c.left-end.result c.turns.counter c.turns.sections c.turns.tokens deep c.one_more_section.new.tokens (omega arith) (sym c.begins.ensures ∙ c.if-not-begins.false) (lt-ltb 0 (inner_of at).blocks (omega arith)) h))

pub returns-then-blocks-eq0 : goal.returns-then-blocks-eq0
returns-then-blocks-eq0 g c =
    let at = c.args.level.now.at in
    c.turns.invariant
    ∙ deep_on kind (kw_case ∷ kw_default ∷ []) (λ _. nat_lt 0 (inner_of at).blocks) (one_more_section (inner_of at)) c.left-end.result c.turns.counter c.turns.sections c.turns.tokens (omega arith) (sym c.begins.ensures ∙ c.if-not-begins.false) (not_below 0 (inner_of at).blocks (omega arith))
