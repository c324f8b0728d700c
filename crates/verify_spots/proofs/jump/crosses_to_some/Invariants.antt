use Rattle.std.proofs.Common.{ℕ, ◌<◌, get_or}
use Rattle.verify_spots.specs.Spots.{HasRegion, Crosses}
use Rattle.verify_spots.proofs.jump.crosses_to_some.Given as goal

abbrev pub invariant-loop-to : goal.invariant-loop-to
invariant-loop-to l = (k : ℕ) → k < l.to-index → HasRegion l.regions.body.now (Crosses l.regions.body.now l.number (get_or l.aims k 0)) → ⊥
