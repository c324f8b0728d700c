use Rattle.std.proofs.Common.{◌≡◌, ◌<◌, ℕ, Some}
use Rattle.std.specs.List.{slice_get}
use Rattle.class_chains.specs.Ends.{Ends, IsWay}
use Rattle.class_chains.specs.Walk.{IsBetween}
use Rattle.class_chains.proofs.walk.above_first.Given as goal

abbrev pub invariant-loop-root : goal.invariant-loop-root
invariant-loop-root l = record {
  between : IsBetween l.ways l.order.items l.marks;
  below : (s : ℕ) → s < l.root → Ends (IsWay l.ways) s × ((k : ℕ) × (slice_get l.order.items k ≡ Some s));
}
