use Rattle.class_implemented.proofs.Stand.{first}
use Rattle.class_implemented.proofs.standing.none_standing.Goals as goal

pub returns : goal.returns
returns c =
    first c.args.known.now (record { stacks = c.in_ok-stacks.stacks; flags = c.in_ok-flags.flags; marks = c.in_ok-marks.marks }) c.in_ok-stacks.ensures.stacked c.in_ok-stacks.ensures.none c.in_ok-flags.ensures c.in_ok-marks.ensures
