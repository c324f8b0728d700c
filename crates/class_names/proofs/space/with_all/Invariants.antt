use Rattle.std.proofs.Common.{take}
use Rattle.class_names.specs.Spaces.{HasAdded}
use Rattle.class_names.proofs.space.with_all.Given as goal

abbrev pub invariant-loop-prefix : goal.invariant-loop-prefix
invariant-loop-prefix l = HasAdded l.initial.spaces.keys (take l.prefix-index l.found) l.spaces.keys
