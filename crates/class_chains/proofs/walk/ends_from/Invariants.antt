use Rattle.std.proofs.Common.{◌≡◌, ◌+◌, ℕ, Some}
use Rattle.std.specs.List.{slice_get}
use Rattle.class_chains.proofs.Marks.{new_work}
use Rattle.class_chains.proofs.Line.{IsWalk, visit_work}
use Rattle.class_chains.proofs.walk.ends_from.Given as goal

abbrev pub invariant-loop-visit : goal.invariant-loop-visit
invariant-loop-visit l = record {
  walk : IsWalk l.ways l.order.items l.root l.marks l.stack;
  kept : (s k : ℕ) → slice_get l.fn.order.items k ≡ Some s → slice_get l.order.items k ≡ Some s;
}

abbrev pub decreases-loop-visit : goal.decreases-loop-visit
decreases-loop-visit l = new_work l.ways l.marks + visit_work l.ways l.stack
