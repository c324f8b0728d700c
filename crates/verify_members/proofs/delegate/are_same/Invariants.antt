use Rattle.std.proofs.Common.{◌≡◌, take, length}
use Rattle.verify_members.proofs.delegate.are_same.Given as goal

abbrev pub invariant-loop-index : goal.invariant-loop-index
invariant-loop-index l = (length l.params ≡ length l.others) × (take l.index l.params ≡ take l.index l.others)
