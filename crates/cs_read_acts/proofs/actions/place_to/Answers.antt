use Rattle.std.proofs.Common.{◌≡◌, rules, false, Err}
use Rattle.cs_tree.specs.declared.forms.Action.{Action}
use Rattle.cs_statements.specs.Actions.{acted}
use Rattle.cs_read_calls.specs.Asked.{inner_of}
use Rattle.cs_read_acts.specs.Acts.{ended_by}
use Rattle.cs_read_acts.proofs.Binds.{goes_on, fails_first}
use Rattle.cs_read_acts.proofs.actions.place_to.Goals as goal

pub returns : goal.returns
returns g c =
    let at = c.args.here.now.level.at in
    goes_on (acted at.left (inner_of at) false c.args.place) (λ (a : Action). ended_by c.args.end a) c.args.tokens.now c.in_ok-action.action c.set_to.new.tokens c.ended.result c.ended.new.tokens c.in_ok-action.ensures c.ended.ensures

pub returns-in_err-action : goal.returns-in_err-action
returns-in_err-action g c =
    let at = c.args.here.now.level.at in
    let is : c.from_residual.result ≡ Err c.in_err-action.field-0.0 = search rules in
    fails_first (acted at.left (inner_of at) false c.args.place) (λ (a : Action). ended_by c.args.end a) c.args.tokens.now c.in_err-action.field-0.0 c.from_residual.result c.set_to.new.tokens is c.in_err-action.ensures
