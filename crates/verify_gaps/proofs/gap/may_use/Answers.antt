use Rattle.verify_gaps.proofs.Uses.{used_yes, used_no}
use Rattle.verify_gaps.proofs.gap.may_use.Goals as goal

pub returns-in_default : goal.returns-in_default
returns-in_default c = record {
  yes = used_yes c.args.setting.now c.args.depth c.args.maker c.is_passed-passed.result c.args.row.now c.in_default.not-Dup c.is_passed-passed.ensures.yes;
  no = used_no c.args.setting.now c.args.depth c.args.maker c.is_passed-passed.result c.args.row.now c.in_default.not-Dup c.is_passed-passed.ensures.no;
}
