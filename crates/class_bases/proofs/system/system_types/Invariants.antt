use Rattle.class_bases.proofs.Systems.{SystemBefore}
use Rattle.class_bases.proofs.system.system_types.Given as goal

abbrev pub invariant-loop-index : goal.invariant-loop-index
invariant-loop-index l = SystemBefore l.types l.index l.found.entries
