use Rattle.class_members.proofs.Inner.{NestedBefore}
use Rattle.class_members.proofs.nested.nested_names.Given as goal

abbrev pub invariant-loop-row : goal.invariant-loop-row
invariant-loop-row l = NestedBefore l.types l.row-index l.names.keys
