use Rattle.verify_rules.specs.Slots.{IsCode}
use Rattle.verify_frames.specs.Among.{HasNoneBelow}
use Rattle.verify_frames.proofs.border.has_code.Given as goal

abbrev pub invariant-loop-slot : goal.invariant-loop-slot
invariant-loop-slot l = HasNoneBelow IsCode l.slots l.slot-index
