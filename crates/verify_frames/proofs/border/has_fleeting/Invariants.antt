use Rattle.verify_rules.specs.Slots.{IsFleeting}
use Rattle.verify_frames.specs.Among.{HasNoneBelow}
use Rattle.verify_frames.proofs.border.has_fleeting.Given as goal

abbrev pub invariant-loop-slot : goal.invariant-loop-slot
invariant-loop-slot l = HasNoneBelow IsFleeting l.slots l.slot-index
