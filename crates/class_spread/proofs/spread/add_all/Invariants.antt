use Rattle.std.proofs.Common.{◌≡◌, take}
use Rattle.class_spread.specs.Filled.{added}
use Rattle.class_spread.proofs.spread.add_all.Given as goal

abbrev pub invariant-loop-number : goal.invariant-loop-number
invariant-loop-number l = l.seen.keys ≡ added l.fn.seen.keys (take l.number-index l.own)
