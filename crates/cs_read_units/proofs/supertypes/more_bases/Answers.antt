use Rattle.std.proofs.Common.{◌≡◌, ◌-◌, rules, true, [], ◌∷◌, refl, sym, ◌∙◌, Err, arith}
use Rattle.cs_grammar.specs.Grammar.{turns}
use Rattle.cs_grammar.proofs.Turns.{round_on, stop}
use Rattle.cs_productions.specs.Tokens.{kind}
use Rattle.cs_productions.specs.Kinds.{comma}
use Rattle.cs_units.specs.Declarations.{one_more_base}
use Rattle.cs_read_types.proofs.Looping.{fail_on, fails_too}
use Rattle.cs_read_units.proofs.supertypes.more_bases.Goals as goal

pub turns-preserved : goal.turns-preserved
turns-preserved c =
    c.turns.invariant
    ∙ round_on kind (comma ∷ []) (λ _. true) (one_more_base c.args.limit) c.left-end.result c.turns.counter c.turns.bases c.in_ok-bases.bases c.turns.tokens c.one_more_base.new.tokens (omega arith) (sym c.begins.ensures ∙ c.if-not-begins.false) refl c.in_ok-bases.ensures

pub returns-then-not-begins : goal.returns-then-not-begins
returns-then-not-begins c =
    c.turns.invariant
    ∙ stop kind (comma ∷ []) (λ _. true) (one_more_base c.args.limit) (c.left-end.result - c.turns.counter) c.turns.bases c.turns.tokens (sym c.begins.ensures ∙ c.if-not-begins.true)

pub returns-in_err-bases : goal.returns-in_err-bases
returns-in_err-bases c =
    let is : c.from_residual.result ≡ Err c.in_err-bases.field-0.0 = search rules in
    rw is
    (fails_too (((one_more_base c.args.limit) c.turns.bases).reads c.turns.tokens) ((turns kind (comma ∷ []) (λ _. true) (one_more_base c.args.limit) c.args.first).reads c.args.tokens.now) c.in_err-bases.field-0.0 c.one_more_base.new.tokens c.in_err-bases.ensures
    (λ deep h. c.turns.invariant
    ∙ fail_on kind (comma ∷ []) (λ _. true) (one_more_base c.args.limit) c.left-end.result c.turns.counter c.turns.bases c.turns.tokens deep c.one_more_base.new.tokens (omega arith) (sym c.begins.ensures ∙ c.if-not-begins.false) refl h))
