use Rattle.class_keys.proofs.Behind.{IsBehind}
use Rattle.class_keys.proofs.key.least_shared_key.Given as goal

abbrev pub invariant-loop-index : goal.invariant-loop-index
invariant-loop-index g l = IsBehind g.K.PartialEq.eq l.keys l.index l.behind.keys l.least
