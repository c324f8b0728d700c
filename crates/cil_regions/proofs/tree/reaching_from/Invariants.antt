use Rattle.std.proofs.Common.{ℕ, ◌<◌, ◌≤◌, length, get_or}
use Rattle.cil_regions.specs.declared.region.Region.{Region}
use Rattle.cil_regions.proofs.tree.reaching_from.Given as goal

abbrev pub invariant-loop-at : goal.invariant-loop-at
invariant-loop-at l = record {
  within : l.at < length l.nodes;
  above : (i : ℕ) (d : Region) → l.at < i → i < length l.nodes → (get_or l.nodes i d).to ≤ l.place;
}

abbrev pub decreases-loop-at : goal.decreases-loop-at
decreases-loop-at l = l.at
