use Rattle.std.proofs.Common.{rules}
use Rattle.class_index.proofs.Order.{range_more}
use Rattle.class_index.proofs.index.numbers.Goals as goal

pub loop-n-preserved : goal.loop-n-preserved
loop-n-preserved c = rw (range_more c.loop-n.n) (search rules)
