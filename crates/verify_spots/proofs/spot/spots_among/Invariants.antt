use Rattle.std.proofs.Common.{◌≡◌, ℕ, ◌<◌, length, get_or}
use Rattle.verify_rules.specs.declared.setting.Spot.{Spot}
use Rattle.verify_spots.specs.Spots.{IsSpot}
use Rattle.verify_spots.proofs.spot.spots_among.Given as goal

abbrev pub invariant-loop-number : goal.invariant-loop-number
invariant-loop-number l = record {
  as_many : length l.spots.items ≡ l.number;
  each : (k : ℕ) → k < l.number → (d : Spot) → IsSpot l.setting l.regions.body.now k (get_or l.spots.items k d);
}
