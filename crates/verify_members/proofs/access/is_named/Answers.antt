use Rattle.verify_members.proofs.Open.{named}
use Rattle.verify_members.proofs.access.is_named.Goals as goal

pub returns-clause-yes : goal.returns-clause-yes
returns-clause-yes c =
    named c.args.setting.now c.args.row.now c.args.frame.now c.args.member c.args.member_row.now c.is_function_of.result
    c.if-not-may_be_named.ensures.yes c.if-not-is_reached.ensures.yes c.if-lists.ensures.no c.if-is_literal.ensures.no c.is_function_of.ensures.yes
