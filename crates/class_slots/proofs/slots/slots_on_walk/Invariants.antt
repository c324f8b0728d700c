use Rattle.std.proofs.Common.{ℕ, List, drop}
use Rattle.class_walk.specs.Walk.{IsWalk}
use Rattle.class_slots.specs.At.{IsAt, AreTold}
use Rattle.class_slots.proofs.slots.slots_on_walk.Given as goal

abbrev pub invariant-loop-step : goal.invariant-loop-step
invariant-loop-step l =
    (path : List ℕ) × IsAt l.known path l.progress × IsWalk l.known.types.now path (drop l.step-index l.step-items)
    × AreTold l.known.types.now l.known.members.now l.known.explicit.now l.step-items l.progress.slots.items l.step-index
