use Rattle.std.proofs.Common.{◌-◌, Option, length, slice_get, below_more, subst}
use Rattle.dc_base.specs.declared.ty.Ty.{Ty}
use Rattle.verify_slots.specs.declared.slot.Slot.{Slot}
use Rattle.verify_rules.specs.Look.{ty_of_param}
use Rattle.verify_puts.specs.Fits.{FitsThere}
use Rattle.verify_puts.proofs.puts.arguments_fit.Goals as goal

pub loop-number-preserved : goal.loop-number-preserved
loop-number-preserved c =
    below_more (λ k. FitsThere c.args.setting.now c.args.fit (ty_of_param (slice_get c.args.params.now k)) (slice_get c.args.frame.now (length c.args.params.now - 1 - k))) c.loop-number.number c.loop-number.invariant
    (subst (λ (ty : Option Ty). FitsThere c.args.setting.now c.args.fit ty (slice_get c.args.frame.now (length c.args.params.now - 1 - c.loop-number.number))) c.param_at.ensures
    (subst (λ (slot : Option Slot). FitsThere c.args.setting.now c.args.fit c.param_at.result slot) c.slot_at-slot.ensures c.if-not-fits_there.ensures.yes))
