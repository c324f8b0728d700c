use Rattle.cil_rows.proofs.Numbers.{rises}
use Rattle.cil_rows.proofs.code.rise.Goals as goal

pub returns : goal.returns
returns c = rises c.args.starts.now c.is_sorted.result c.is_sorted.ensures.cases
