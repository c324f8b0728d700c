use Rattle.std.proofs.Common.{◌≡◌, ◌-◌, rules, true, [], ◌∷◌, refl, sym, ◌∙◌, Err, arith}
use Rattle.cs_grammar.specs.Grammar.{turns}
use Rattle.cs_grammar.proofs.Turns.{round_on, stop}
use Rattle.cs_productions.specs.Kinds.{comma}
use Rattle.cs_productions.specs.Tokens.{kind}
use Rattle.cs_productions.specs.Calls.{one_more_arg}
use Rattle.cs_read_types.proofs.Looping.{fail_on, fails_too}
use Rattle.cs_read_calls.specs.Asked.{inner_of}
use Rattle.cs_read_calls.proofs.level.Level.more_args.Goals as goal

pub turns-preserved : goal.turns-preserved
turns-preserved g c =
    let at = c.args.self.now.at in (
      c.turns.invariant.0
          ∙ round_on kind (comma ∷ []) (λ _. true) (one_more_arg (inner_of at)) c.left-end.result c.turns.counter c.turns.args c.in_ok-args.args c.turns.tokens c.one_more_arg.new.tokens (omega arith) (sym c.begins.ensures ∙ c.if-not-begins.false) refl c.in_ok-args.ensures.reads,
      c.in_ok-args.ensures.within,
    )

pub returns-then-not-begins-clause-reads : goal.returns-then-not-begins-clause-reads
returns-then-not-begins-clause-reads g c =
    let at = c.args.self.now.at in
    c.turns.invariant.0
    ∙ stop kind (comma ∷ []) (λ _. true) (one_more_arg (inner_of at)) (c.left-end.result - c.turns.counter) c.turns.args c.turns.tokens (sym c.begins.ensures ∙ c.if-not-begins.true)

pub returns-in_err-args-clause-reads : goal.returns-in_err-args-clause-reads
returns-in_err-args-clause-reads g c =
    let at = c.args.self.now.at in
    let is : c.from_residual.result ≡ Err c.in_err-args.field-0.0 = search rules in
    rw is
    (fails_too ((one_more_arg (inner_of at) c.turns.args).reads c.turns.tokens) ((turns kind (comma ∷ []) (λ _. true) (one_more_arg (inner_of at)) c.args.first).reads c.args.tokens.now) c.in_err-args.field-0.0 c.one_more_arg.new.tokens c.in_err-args.ensures.reads
    (λ deep h. c.turns.invariant.0
    ∙ fail_on kind (comma ∷ []) (λ _. true) (one_more_arg (inner_of at)) c.left-end.result c.turns.counter c.turns.args c.turns.tokens deep c.one_more_arg.new.tokens (omega arith) (sym c.begins.ensures ∙ c.if-not-begins.false) refl h))
