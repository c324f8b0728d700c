use Rattle.std.proofs.Common.{Bool, sym, subst}
use Rattle.cs_grammar.specs.Reads.{Reads}
use Rattle.cs_read_calls.specs.Asked.{inner_of}
use Rattle.cs_read_acts.specs.Acts.{act_as}
use Rattle.cs_read_acts.proofs.actions.act.Goals as goal

pub returns-then-place : goal.returns-then-place
returns-then-place g c =
    let at = c.args.here.now.level.at in
    subst (λ (b : Bool). Reads ((act_as at.left (inner_of at) b c.args.place).reads c.args.tokens.now) c.act_with.result c.act_with.new.tokens)
    (sym c.if-place.true) c.act_with.ensures

pub returns : goal.returns
returns g c =
    let at = c.args.here.now.level.at in
    subst (λ (b : Bool). Reads ((act_as at.left (inner_of at) b c.args.place).reads c.args.tokens.now) c.act_on.result c.act_on.new.tokens)
    (sym c.if-place.false) c.act_on.ensures
