use Rattle.class_keys.proofs.Noted.{AreNoted}
use Rattle.class_keys.proofs.firsts.first_indices.Given as goal

abbrev pub invariant-loop-index : goal.invariant-loop-index
invariant-loop-index g l = AreNoted g.K.PartialEq.eq l.keys l.index l.seen.keys l.places.items l.firsts.items
