use Rattle.class_names.proofs.Spaces.{SpacesBefore}
use Rattle.class_names.proofs.space.namespaces.Given as goal

abbrev pub invariant-loop-row : goal.invariant-loop-row
invariant-loop-row l = SpacesBefore l.types l.row-index l.spaces.keys
