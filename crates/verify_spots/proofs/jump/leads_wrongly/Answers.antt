use Rattle.std.proofs.Common.{Option, slice_get, subst}
use Rattle.std.specs.Bool.{OnTrue, OnFalse}
use Rattle.cil_rows.specs.declared.row.Row.{Row}
use Rattle.verify_rules.specs.Kinds.{IsSo}
use Rattle.verify_spots.specs.Spots.{JumpsWrongly}
use Rattle.verify_spots.proofs.There.{there_yes, there_no}
use Rattle.verify_spots.proofs.jump.leads_wrongly.Goals as goal

pub returns-clause-yes : goal.returns-clause-yes
returns-clause-yes c =
    there_yes (JumpsWrongly c.args.regions.now.body.now c.args.number) (slice_get c.args.setting.now.rows.now c.args.number) c.row_jumps_off.result
    (subst (λ (o : Option Row). OnTrue c.row_jumps_off.result (IsSo (JumpsWrongly c.args.regions.now.body.now c.args.number) o)) c.row_at.ensures c.row_jumps_off.ensures.yes)

pub returns-clause-no : goal.returns-clause-no
returns-clause-no c =
    there_no (JumpsWrongly c.args.regions.now.body.now c.args.number) (slice_get c.args.setting.now.rows.now c.args.number) c.row_jumps_off.result
    (subst (λ (o : Option Row). OnFalse c.row_jumps_off.result (IsSo (JumpsWrongly c.args.regions.now.body.now c.args.number) o → ⊥)) c.row_at.ensures c.row_jumps_off.ensures.no)
