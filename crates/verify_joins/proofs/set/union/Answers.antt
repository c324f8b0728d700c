use Rattle.std.proofs.Common.{arith}
use Rattle.verify_slots.proofs.Put.{union_more}
use Rattle.verify_joins.proofs.set.union.Goals as goal

pub loop-ty-preserved : goal.loop-ty-preserved
loop-ty-preserved c = record {
  united = union_more c.args.one.now c.args.other.now c.loop-ty.set.items c.put.new.set.items c.loop-ty.ty-index _ (omega (arith, c.loop-ty-test.true)) c.loop-ty.invariant.united c.in_ok-put.ensures.put;
  once = λ is. c.in_ok-put.ensures.once (c.loop-ty.invariant.once is);
}
