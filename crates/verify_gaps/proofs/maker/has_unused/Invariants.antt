use Rattle.verify_gaps.specs.Parts.{IsUnused}
use Rattle.verify_rules.specs.Gap.{makers}
use Rattle.verify_frames.specs.Among.{HasNoneBelow}
use Rattle.verify_gaps.proofs.maker.has_unused.Given as goal

abbrev pub invariant-loop-slot : goal.invariant-loop-slot
invariant-loop-slot l = HasNoneBelow (IsUnused (makers l.used)) l.slots l.slot-index
