use Rattle.std.proofs.Common.{ℕ, List, drop}
use Rattle.class_walk.specs.Walk.{IsWalk}
use Rattle.cli_refs.specs.At.{IsAt, AreTold}
use Rattle.cli_refs.proofs.meant.meant_on_walk.Given as goal

abbrev pub invariant-loop-step : goal.invariant-loop-step
invariant-loop-step l =
    (path : List ℕ) × IsAt l.known path l.progress × IsWalk l.known.types.now path (drop l.step-index l.step-items)
    × AreTold l.known l.step-items l.progress.found.items l.step-index
