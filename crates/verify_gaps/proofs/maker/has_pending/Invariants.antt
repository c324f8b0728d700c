use Rattle.verify_gaps.specs.Parts.{IsPending}
use Rattle.verify_rules.specs.Gap.{makers}
use Rattle.verify_frames.specs.Among.{HasNoneBelow}
use Rattle.verify_gaps.proofs.maker.has_pending.Given as goal

abbrev pub invariant-loop-slot : goal.invariant-loop-slot
invariant-loop-slot l = HasNoneBelow (IsPending l.setting (makers l.used)) l.slots l.slot-index
