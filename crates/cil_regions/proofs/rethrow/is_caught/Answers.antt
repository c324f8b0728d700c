use Rattle.cil_regions.proofs.Catching.{caught_here, not_caught}
use Rattle.cil_regions.proofs.rethrow.is_caught.Goals as goal

pub returns-in-Some : goal.returns-in-Some
returns-in-Some c = caught_here c.args.nodes.now c.args.place c.args.catching.now c.args.here c.in-Some.here c.requires.nested c.requires.catching c.requires.here c.in-Some.is

pub returns-in-None : goal.returns-in-None
returns-in-None c = not_caught c.args.nodes.now c.args.place c.args.here c.requires.here c.in-None.is
