use Rattle.std.proofs.Common.{ℕ, List, drop}
use Rattle.class_walk.specs.Walk.{IsWalk}
use Rattle.class_implemented.specs.Progress.{IsAt, AreTold}
use Rattle.class_implemented.proofs.walked.least_of_each.Given as goal

abbrev pub invariant-loop-step : goal.invariant-loop-step
invariant-loop-step l =
    (path : List ℕ) × IsAt l.known path l.progress × IsWalk l.known.types.now path (drop l.step-index l.step-items)
    × AreTold l.known l.step-items l.progress.least.items l.step-index
