use Rattle.std.proofs.Common.{ℕ, ◌<◌, ◌-◌, length, get_or}
use Rattle.cil_regions.specs.declared.region.Region.{Region}
use Rattle.verify_spots.specs.Spots.{StandsIn}
use Rattle.verify_spots.specs.Questions.{span_of}
use Rattle.verify_spots.proofs.jump.last_round.Given as goal

abbrev pub invariant-loop-back : goal.invariant-loop-back
invariant-loop-back l = (k : ℕ) → k < l.back → (d : Region) → StandsIn l.regions.body.now (span_of (get_or l.regions.nodes.now (length l.regions.nodes.now - 1 - k) d)) l.number → ⊥
