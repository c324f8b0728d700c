use Rattle.std.proofs.Common.{◌≡◌, ◌-◌, rules, true, [], refl, sym, ◌∙◌, Err, arith}
use Rattle.cs_grammar.specs.Grammar.{turns}
use Rattle.cs_grammar.proofs.Turns.{round_on, stop}
use Rattle.cs_productions.specs.Tokens.{kind}
use Rattle.cs_units.specs.Kinds.{decl_kinds}
use Rattle.cs_units.specs.Declarations.{one_more_type}
use Rattle.cs_references.specs.Declarations.{type_at}
use Rattle.cs_read_types.proofs.Looping.{fail_on, fails_too}
use Rattle.cs_read_references.proofs.spaces.types.Goals as goal

pub turns-preserved : goal.turns-preserved
turns-preserved c =
    c.turns.invariant
    ∙ round_on kind (decl_kinds) (λ _. true) (one_more_type (type_at c.args.limit c.args.nesting)) c.left-end.result c.turns.counter c.turns.so_far c.in_ok-so_far.so_far c.turns.tokens c.one_more_type.new.tokens (omega arith) (sym c.begins.ensures ∙ c.if-not-begins.false) refl c.in_ok-so_far.ensures

pub returns-then-not-begins : goal.returns-then-not-begins
returns-then-not-begins c =
    c.turns.invariant
    ∙ stop kind (decl_kinds) (λ _. true) (one_more_type (type_at c.args.limit c.args.nesting)) (c.left-end.result - c.turns.counter) c.turns.so_far c.turns.tokens (sym c.begins.ensures ∙ c.if-not-begins.true)

pub returns-in_err-so_far : goal.returns-in_err-so_far
returns-in_err-so_far c =
    let is : c.from_residual.result ≡ Err c.in_err-so_far.field-0.0 = search rules in
    rw is
    (fails_too (((one_more_type (type_at c.args.limit c.args.nesting)) c.turns.so_far).reads c.turns.tokens) ((turns kind (decl_kinds) (λ _. true) (one_more_type (type_at c.args.limit c.args.nesting)) []).reads c.args.tokens.now) c.in_err-so_far.field-0.0 c.one_more_type.new.tokens c.in_err-so_far.ensures
    (λ deep h. c.turns.invariant
    ∙ fail_on kind (decl_kinds) (λ _. true) (one_more_type (type_at c.args.limit c.args.nesting)) c.left-end.result c.turns.counter c.turns.so_far c.turns.tokens deep c.one_more_type.new.tokens (omega arith) (sym c.begins.ensures ∙ c.if-not-begins.false) refl h))
