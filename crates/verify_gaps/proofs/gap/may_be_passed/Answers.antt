use Rattle.std.proofs.Common.{Option, slice_get, below_more, subst}
use Rattle.verify_slots.specs.declared.slot.Slot.{Slot}
use Rattle.verify_gaps.specs.Parts.{MayBeUsedAt}
use Rattle.verify_gaps.proofs.gap.may_be_passed.Goals as goal

pub loop-depth-preserved : goal.loop-depth-preserved
loop-depth-preserved c =
    below_more (λ k. MayBeUsedAt c.args.setting.now c.args.row.now k (slice_get c.args.frame.now k)) c.loop-depth.depth c.loop-depth.invariant
    (subst (λ (o : Option Slot). MayBeUsedAt c.args.setting.now c.args.row.now c.loop-depth.depth o) c.slot_at.ensures c.if-not-may_be_used_at.ensures.yes)
