use Rattle.std.proofs.Common.{List, subst}
use Rattle.std.specs.Bool.{OnFalse}
use Rattle.std.specs.Option.{option_copied}
use Rattle.dc_base.specs.declared.ty.Ty.{Ty}
use Rattle.verify_puts.specs.Fits.{ElementsFit}
use Rattle.verify_puts.proofs.puts.set_fits.Goals as goal

pub returns-in-Refs-clause-no : goal.returns-in-Refs-clause-no
returns-in-Refs-clause-no c =
    let h = subst (λ (set : List Ty). OnFalse c.elements_fit.result (ElementsFit c.args.setting.now c.args.fit set (option_copied c.args.slot) → ⊥)) c.items.ensures c.elements_fit.ensures.no in
    rw c.in-Refs.is h
