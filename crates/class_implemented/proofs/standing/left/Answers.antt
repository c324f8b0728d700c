use Rattle.std.proofs.Common.{refl}
use Rattle.class_implemented.proofs.Stand.{at_left}
use Rattle.class_implemented.proofs.standing.left.Goals as goal

pub returns : goal.returns
returns c = λ path at.
    at_left c.args.known.now c.requires.known c.args.standing (record { stacks = c.in_ok-stacks.stacks; flags = c.with_flag-flags.result; marks = c.args.standing.marks }) path c.args.t.0 at c.in_ok-stacks.ensures.stacked c.in_ok-stacks.ensures.less c.with_flag-flags.ensures refl
