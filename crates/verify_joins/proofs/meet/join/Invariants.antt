use Rattle.std.proofs.Common.{take}
use Rattle.verify_slots.specs.Slots.{AreIn, IsUnited}
use Rattle.verify_narrower.specs.Narrower.{IsFrame}
use Rattle.verify_joins.proofs.meet.join.Given as goal

abbrev pub invariant-loop-number : goal.invariant-loop-number
invariant-loop-number l = record {
  united : IsUnited AreIn (take l.number l.one) (take l.number l.other) l.united.items;
  once : IsFrame l.one → IsFrame l.united.items;
}
