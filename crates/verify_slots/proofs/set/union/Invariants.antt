use Rattle.std.proofs.Common.{take}
use Rattle.verify_slots.specs.Slots.{IsSubset, IsUnited}
use Rattle.verify_slots.specs.Sets.{IsSet}
use Rattle.verify_slots.proofs.Put.{ty_cmp}
use Rattle.verify_slots.proofs.set.union.Given as goal

abbrev pub invariant-loop-ty : goal.invariant-loop-ty
invariant-loop-ty l = record {
  united : IsUnited IsSubset l.one (take l.ty-index l.other) l.set.items;
  ordered : IsSet ty_cmp l.one → IsSet ty_cmp l.set.items;
}
