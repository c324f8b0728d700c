use Rattle.std.proofs.Common.{rules}
use Rattle.cil_rows.proofs.Numbers.{found, missed}
use Rattle.cil_rows.proofs.code.searched.Goals as goal

pub returns-then-starts-number : goal.returns-then-starts-number
returns-then-starts-number c =
    let is = found c.args.starts.now c.args.place c.below-number.result c.below-number.ensures.parts in search (rules, is)

pub returns-else-number-starts : goal.returns-else-number-starts
returns-else-number-starts c =
    let is = missed c.args.starts.now c.args.place c.below-number.result c.below-number.ensures.parts c.requires c.below-number.ensures.within in search (rules, is)
