use Rattle.std.proofs.Common.{◌≡◌, ℕ, Some}
use Rattle.std.specs.List.{slice_get}
use Rattle.class_open.specs.Trail.{IsAlikeTo}
use Rattle.class_open.proofs.Hunt.{depth, IsHunt}
use Rattle.class_open.proofs.alike.innermost_alike.Given as goal

abbrev pub invariant-loop-at : goal.invariant-loop-at
invariant-loop-at l = (s : ℕ) × (slice_get l.signs l.m ≡ Some s) × IsHunt (IsAlikeTo l.types l.members l.row) l.signs l.state.below.items s l.state.trail l.at

abbrev pub decreases-loop-at : goal.decreases-loop-at
decreases-loop-at l = depth l.state.trail l.at
