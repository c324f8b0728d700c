use Rattle.std.proofs.Common.{length}
use Rattle.verify_accepts.proofs.order.+kept.Given as goal

abbrev pub decreases-kept : goal.decreases-kept
decreases-kept l = length l.asked.now
