use Rattle.std.proofs.Common.{◌≡◌, rules, Err}
use Rattle.cs_productions.specs.declared.values.Measured.{Measured}
use Rattle.cs_productions.specs.Kinds.{unparen}
use Rattle.cs_statements.specs.Actions.{primary, action_to}
use Rattle.cs_read_calls.specs.Asked.{inner_of}
use Rattle.cs_read_acts.proofs.Binds.{goes_on, fails_first}
use Rattle.cs_read_heads.proofs.heads.step.Goals as goal

pub returns : goal.returns
returns g c =
    let at = c.args.here.now.level.at in
    goes_on (primary at.left (inner_of at)) (λ (p : Measured). action_to at.left (inner_of at) unparen p.is_call p) c.args.tokens.now c.in_ok-place.place c.primary.new.tokens c.action_to.result c.action_to.new.tokens c.in_ok-place.ensures c.action_to.ensures

pub returns-in_err-place : goal.returns-in_err-place
returns-in_err-place g c =
    let at = c.args.here.now.level.at in
    let is : c.from_residual.result ≡ Err c.in_err-place.field-0.0 = search rules in
    fails_first (primary at.left (inner_of at)) (λ (p : Measured). action_to at.left (inner_of at) unparen p.is_call p) c.args.tokens.now c.in_err-place.field-0.0 c.from_residual.result c.primary.new.tokens is c.in_err-place.ensures
