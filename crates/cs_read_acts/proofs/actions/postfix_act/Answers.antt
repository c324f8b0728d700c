use Rattle.std.proofs.Common.{◌≡◌, rules, Err}
use Rattle.cs_productions.specs.Calls.{postfixes}
use Rattle.cs_statements.specs.Actions.{act}
use Rattle.cs_read_calls.specs.Asked.{inner_of}
use Rattle.cs_read_acts.proofs.Binds.{goes_on, fails_first}
use Rattle.cs_read_acts.proofs.actions.postfix_act.Goals as goal

pub returns : goal.returns
returns g c =
    let at = c.args.here.now.level.at in
    goes_on (postfixes at.left (inner_of at) c.args.first) (act at.left (inner_of at)) c.args.tokens.now c.in_ok-place.place c.postfixes.new.tokens c.act.result c.act.new.tokens c.in_ok-place.ensures c.act.ensures

pub returns-in_err-place : goal.returns-in_err-place
returns-in_err-place g c =
    let at = c.args.here.now.level.at in
    let is : c.from_residual.result ≡ Err c.in_err-place.field-0.0 = search rules in
    fails_first (postfixes at.left (inner_of at) c.args.first) (act at.left (inner_of at)) c.args.tokens.now c.in_err-place.field-0.0 c.from_residual.result c.postfixes.new.tokens is c.in_err-place.ensures
