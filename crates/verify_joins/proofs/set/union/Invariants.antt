use Rattle.std.proofs.Common.{take}
use Rattle.verify_slots.specs.Slots.{IsSubset, IsUnited}
use Rattle.verify_narrower.specs.Narrower.{IsOnce}
use Rattle.verify_joins.proofs.set.union.Given as goal

abbrev pub invariant-loop-ty : goal.invariant-loop-ty
invariant-loop-ty l = record {
  united : IsUnited IsSubset l.one (take l.ty-index l.other) l.set.items;
  once : IsOnce l.one → IsOnce l.set.items;
}
