use Rattle.std.proofs.Common.{◌≡◌, Result, Err, rules, sym, ◌∙◌, subst}
use Rattle.dc_base.specs.declared.failure.Or.{Or}
use Rattle.cs_token.specs.Placed.{Placed as Token}
use Rattle.cs_productions.specs.declared.values.Measured.{Measured}
use Rattle.cs_productions.specs.Operators.{additive, conditional}
use Rattle.cs_grammar.specs.Grammar.{Read}
use Rattle.cs_grammar.specs.Reads.{Reads}
use Rattle.cs_read_types.proofs.Looping.{fails_too}
use Rattle.cs_read_calls.specs.Asked.{inner_of}
use Rattle.cs_read_operators.proofs.Behind.{from_sum, no_sum}
use Rattle.cs_read_operators.proofs.operators.conditional.Goals as goal

pub returns : goal.returns
returns g c =
    let at = c.args.level.now.at in
    subst (λ (r : Read Token Measured). Reads r c.behind_sum.result c.behind_sum.new.tokens) (sym (from_sum at.left (inner_of at) c.args.first c.in_ok-sum.sum c.args.tokens.now c.additive.new.tokens c.in_ok-sum.ensures)) c.behind_sum.ensures

pub returns-in_err-sum : goal.returns-in_err-sum
returns-in_err-sum g c =
    let at = c.args.level.now.at in
    let is : c.from_residual.result ≡ Err c.in_err-sum.field-0.0 = search rules in
    rw is
    (fails_too ((additive at.left (inner_of at) c.args.first).reads c.args.tokens.now) ((conditional at.left (inner_of at) c.args.first).reads c.args.tokens.now) c.in_err-sum.field-0.0 c.additive.new.tokens c.in_err-sum.ensures
    (λ deep h. no_sum at.left (inner_of at) c.args.first c.args.tokens.now c.additive.new.tokens deep h))
