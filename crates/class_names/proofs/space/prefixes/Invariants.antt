use Rattle.class_names.proofs.Prefix.{PrefixesBefore}
use Rattle.class_names.proofs.space.prefixes.Given as goal

abbrev pub invariant-loop-index : goal.invariant-loop-index
invariant-loop-index l = PrefixesBefore l.space l.index l.found.items
