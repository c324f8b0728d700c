use Rattle.verify_rules.specs.Gap.{IsTested}
use Rattle.verify_frames.specs.Among.{HasNoneBelow}
use Rattle.verify_gaps.proofs.maker.has_tested.Given as goal

abbrev pub invariant-loop-slot : goal.invariant-loop-slot
invariant-loop-slot l = HasNoneBelow IsTested l.slots l.slot-index
