use Rattle.std.proofs.Common.{◌≡◌, List, subst}
use Rattle.std.specs.Result.{IfOk}
use Rattle.verify_slots.specs.declared.slot.Slot.{Slot}
use Rattle.verify_results.proofs.Left.{leaves_other}
use Rattle.verify_results.proofs.result.leaves.Goals as goal

pub returns-in_default : goal.returns-in_default
returns-in_default c =
    subst (λ (frame : List Slot). IfOk c.given_and_left.result (λ slots. slots ≡ frame))
    (leaves_other c.args.setting.now c.args.spot c.args.of_this c.args.row.now c.args.frame.now c.in_default.not-Leave) c.given_and_left.ensures
