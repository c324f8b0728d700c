use Rattle.std.proofs.Common.{ℕ, List, drop}
use Rattle.class_walk.specs.Walk.{IsWalk}
use Rattle.class_open.specs.Trail.{Has}
use Rattle.cli_slots.specs.At.{IsAt, IsEntered, AreTold}
use Rattle.cli_slots.proofs.slots.virts_on_walk.Given as goal

abbrev pub invariant-loop-step : goal.invariant-loop-step
invariant-loop-step l =
    (path : List ℕ) × IsAt l.known path l.progress × IsWalk l.known.types.now path (drop l.step-index l.step-items)
    × ((u : ℕ) → Has path u → IsEntered l.step-items l.step-index u) × AreTold l.known l.step-items l.step-index l.progress.told
