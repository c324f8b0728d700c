use Rattle.std.proofs.Common.{◌≡◌, rules, [], ◌∷◌, sym, ◌∙◌, nat_lt, Err, arith}
use Rattle.std.proofs.lemmas.Bool.{lt-ltb}
use Rattle.cs_tree.specs.declared.types.TypeForm.{TypeForm}
use Rattle.cs_grammar.proofs.Turns.{round_on}
use Rattle.cs_productions.specs.Kinds.{bracket}
use Rattle.cs_productions.specs.Tokens.{kind}
use Rattle.cs_productions.specs.Types.{one_more_rank, ranks}
use Rattle.cs_read_types.proofs.Looping.{deep_on, fail_on, fails_too, not_below}
use Rattle.cs_read_types.proofs.types.ranks.Goals as goal

pub turns-preserved : goal.turns-preserved
turns-preserved c =
    c.turns.invariant
    ∙ round_on kind (bracket ∷ []) (λ (u : TypeForm). nat_lt u.ranks c.args.limit) one_more_rank c.left-end.result c.turns.counter c.turns.ty c.in_ok-ty.ty c.turns.tokens c.one_more_rank.new.tokens (omega arith) (sym c.begins.ensures ∙ c.if-not-begins.false) (lt-ltb c.turns.ty.ranks c.args.limit (omega arith)) c.in_ok-ty.ensures

pub returns-then-ty-from : goal.returns-then-ty-from
returns-then-ty-from c =
    c.turns.invariant
    ∙ deep_on kind (bracket ∷ []) (λ (u : TypeForm). nat_lt u.ranks c.args.limit) one_more_rank c.left-end.result c.turns.counter c.turns.ty c.turns.tokens (omega arith) (sym c.begins.ensures ∙ c.if-not-begins.false) (not_below c.turns.ty.ranks c.args.limit (omega arith))

pub returns-in_err-ty : goal.returns-in_err-ty
returns-in_err-ty c =
    let is : c.from_residual.result ≡ Err c.in_err-ty.field-0.0 = search rules in
    rw is
    (fails_too ((one_more_rank c.turns.ty).reads c.turns.tokens) ((ranks c.args.limit c.args.first).reads c.args.tokens.now) c.in_err-ty.field-0.0 c.one_more_rank.new.tokens c.in_err-ty.ensures
    (λ deep h. c.turns.invariant
    ∙ fail_on kind (bracket ∷ []) (λ (u : TypeForm). nat_lt u.ranks c.args.limit) one_more_rank c.left-end.result c.turns.counter c.turns.ty c.turns.tokens deep c.one_more_rank.new.tokens (omega arith) (sym c.begins.ensures ∙ c.if-not-begins.false) (lt-ltb c.turns.ty.ranks c.args.limit (omega arith)) h))
