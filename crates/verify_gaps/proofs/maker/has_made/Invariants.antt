use Rattle.verify_rules.specs.Slots.{IsBy}
use Rattle.verify_frames.specs.Among.{HasNoneBelow}
use Rattle.verify_gaps.proofs.maker.has_made.Given as goal

abbrev pub invariant-loop-slot : goal.invariant-loop-slot
invariant-loop-slot l = HasNoneBelow (IsBy l.maker) l.slots l.slot-index
