use Rattle.std.proofs.Common.{take}
use Rattle.verify_slots.specs.Slots.{AreIn, IsUnited}
use Rattle.verify_slots.proofs.meet.unite.Given as goal

abbrev pub invariant-loop-number : goal.invariant-loop-number
invariant-loop-number l = IsUnited AreIn (take l.number l.one) (take l.number l.other) l.united.items
