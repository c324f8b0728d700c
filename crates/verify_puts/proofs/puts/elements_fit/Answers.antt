use Rattle.std.proofs.Common.{Option, slice_get, below_more, subst}
use Rattle.std.specs.Option.{option_copied}
use Rattle.dc_base.specs.declared.ty.Ty.{Ty}
use Rattle.verify_puts.specs.Fits.{FitsThere, element_at}
use Rattle.verify_puts.proofs.puts.elements_fit.Goals as goal

pub loop-number-preserved : goal.loop-number-preserved
loop-number-preserved c =
    below_more (λ k. FitsThere c.args.setting.now c.args.fit (element_at (slice_get c.args.set.now k)) (option_copied c.args.slot)) c.loop-number.number c.loop-number.invariant
    (subst (λ (ty : Option Ty). FitsThere c.args.setting.now c.args.fit ty (option_copied c.args.slot)) c.element_at.ensures c.if-not-fits_there.ensures.yes)
