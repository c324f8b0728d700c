use Rattle.std.proofs.Common.{◌≡◌, ◌-◌, rules, true, [], ◌∷◌, refl, sym, ◌∙◌, Err, arith}
use Rattle.cs_grammar.specs.Grammar.{turns}
use Rattle.cs_grammar.proofs.Turns.{round_on, stop}
use Rattle.cs_productions.specs.Tokens.{kind}
use Rattle.cs_productions.specs.Kinds.{dot}
use Rattle.cs_units.specs.Members.{one_more_part}
use Rattle.cs_read_types.proofs.Looping.{fail_on, fails_too}
use Rattle.cs_read_members.proofs.methods.more_parts.Goals as goal

pub turns-preserved : goal.turns-preserved
turns-preserved c =
    c.turns.invariant
    ∙ round_on kind (dot ∷ []) (λ _. true) one_more_part c.left-end.result c.turns.counter c.turns.named c.in_ok-named.named c.turns.tokens c.one_more_part.new.tokens (omega arith) (sym c.begins.ensures ∙ c.if-not-begins.false) refl c.in_ok-named.ensures

pub returns-then-not-begins : goal.returns-then-not-begins
returns-then-not-begins c =
    c.turns.invariant
    ∙ stop kind (dot ∷ []) (λ _. true) one_more_part (c.left-end.result - c.turns.counter) c.turns.named c.turns.tokens (sym c.begins.ensures ∙ c.if-not-begins.true)

pub returns-in_err-named : goal.returns-in_err-named
returns-in_err-named c =
    let is : c.from_residual.result ≡ Err c.in_err-named.field-0.0 = search rules in
    rw is
    (fails_too ((one_more_part c.turns.named).reads c.turns.tokens) ((turns kind (dot ∷ []) (λ _. true) one_more_part c.args.first).reads c.args.tokens.now) c.in_err-named.field-0.0 c.one_more_part.new.tokens c.in_err-named.ensures
    (λ deep h. c.turns.invariant
    ∙ fail_on kind (dot ∷ []) (λ _. true) one_more_part c.left-end.result c.turns.counter c.turns.named c.turns.tokens deep c.one_more_part.new.tokens (omega arith) (sym c.begins.ensures ∙ c.if-not-begins.false) refl h))
