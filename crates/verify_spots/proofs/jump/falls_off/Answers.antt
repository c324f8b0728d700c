use Rattle.std.proofs.Common.{◌≡◌, ◌⊎◌, ◌+◌, true, Option, None, slice_get, subst}
use Rattle.std.specs.Bool.{OnTrue, OnFalse}
use Rattle.cil_rows.specs.declared.row.Row.{Row}
use Rattle.cil_rows.specs.Flow.{goes_on}
use Rattle.verify_rules.specs.Kinds.{IsSo}
use Rattle.verify_spots.specs.Spots.{HasRegion, Crosses}
use Rattle.verify_spots.proofs.There.{falls, falls_not}
use Rattle.verify_spots.proofs.jump.falls_off.Goals as goal

pub returns-clause-yes : goal.returns-clause-yes
returns-clause-yes c =
    falls c.args.setting.now c.args.regions.now.body.now c.args.number c.row_falls_off.result
    (subst (λ (o : Option Row). OnTrue c.row_falls_off.result (IsSo (λ row. (goes_on row ≡ true) × ((slice_get c.args.setting.now.rows.now (c.args.number + 1) ≡ None) ⊎ HasRegion c.args.regions.now.body.now (Crosses c.args.regions.now.body.now c.args.number (c.args.number + 1)))) o)) c.row_at.ensures c.row_falls_off.ensures.yes)

pub returns-clause-no : goal.returns-clause-no
returns-clause-no c =
    falls_not c.args.setting.now c.args.regions.now.body.now c.args.number c.row_falls_off.result
    (subst (λ (o : Option Row). OnFalse c.row_falls_off.result (IsSo (λ row. (goes_on row ≡ true) × ((slice_get c.args.setting.now.rows.now (c.args.number + 1) ≡ None) ⊎ HasRegion c.args.regions.now.body.now (Crosses c.args.regions.now.body.now c.args.number (c.args.number + 1)))) o → ⊥)) c.row_at.ensures c.row_falls_off.ensures.no)
