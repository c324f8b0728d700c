use Rattle.std.proofs.Common.{Bool, sym, subst}
use Rattle.cs_grammar.specs.Reads.{Reads}
use Rattle.cs_statements.specs.Actions.{action_to}
use Rattle.cs_read_calls.specs.Asked.{inner_of}
use Rattle.cs_read_acts.proofs.actions.action_to.Goals as goal

pub returns-then-place : goal.returns-then-place
returns-then-place g c =
    let at = c.args.here.now.level.at in
    subst (λ (b : Bool). Reads ((action_to at.left (inner_of at) c.args.end b c.args.place).reads c.args.tokens.now) c.call_to.result c.call_to.new.tokens)
    (sym c.if-place.true) c.call_to.ensures

pub returns : goal.returns
returns g c =
    let at = c.args.here.now.level.at in
    subst (λ (b : Bool). Reads ((action_to at.left (inner_of at) c.args.end b c.args.place).reads c.args.tokens.now) c.place_to.result c.place_to.new.tokens)
    (sym c.if-place.false) c.place_to.ensures
