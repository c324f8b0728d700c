use Rattle.std.proofs.Common.{Option, sym, subst}
use Rattle.verify_slots.specs.declared.slot.Slot.{Slot}
use Rattle.verify_slots.specs.Slots.{IsIn, Unite}
use Rattle.verify_slots.proofs.United.{apart_by_length, apart_at, united_more}
use Rattle.verify_narrower.specs.Narrower.{HasOnce, IsFrame}
use Rattle.verify_joins.specs.Once.{OfUnited}
use Rattle.verify_joins.proofs.Kept.{frame_push}
use Rattle.verify_joins.proofs.meet.join.Goals as goal

pub returns-then-one-other-clause-united : goal.returns-then-one-other-clause-united
returns-then-one-other-clause-united c = apart_by_length c.args.one.now c.args.other.now c.if-one-other.true

pub returns-in-None-clause-united : goal.returns-in-None-clause-united
returns-in-None-clause-united c =
    let apart = subst (λ (r : Option Slot). Unite IsIn c.index-one-number.result c.index-other-number.result r) c.in-None.is c.in_ok-slot.ensures.united in
    apart_at c.args.one.now c.args.other.now c.loop-number.number c.index-one-number.result c.index-other-number.result c.loop-number-test.true c.if-one-other.false c.index-one-number.is c.index-other-number.is apart

pub loop-number-preserved : goal.loop-number-preserved
loop-number-preserved c =
    let least = subst (λ (r : Option Slot). Unite IsIn c.index-one-number.result c.index-other-number.result r) c.in-Some.is c.in_ok-slot.ensures.united in
    record {
      united =
          rw c.in_ok-push-in-Some.ensures.items (united_more c.args.one.now c.args.other.now c.loop-number.united.items c.loop-number.number c.index-one-number.result c.index-other-number.result c.in-Some.slot c.loop-number-test.true c.if-one-other.false c.index-one-number.is c.index-other-number.is c.loop-number.invariant.united least);
      once = λ frame.
          let one = frame c.index-one-number.result (c.loop-number.number, c.loop-number-test.true, sym c.index-one-number.is) in
          let slot = subst (λ (r : Option Slot). OfUnited HasOnce r) c.in-Some.is (c.in_ok-slot.ensures.once one) in
          subst IsFrame (sym c.in_ok-push-in-Some.ensures.items) (frame_push c.loop-number.united.items c.in-Some.slot (c.loop-number.invariant.once frame) slot);
    }

pub returns-clause-once : goal.returns-clause-once
returns-clause-once c = λ frame. subst IsFrame (sym c.of.ensures) (c.loop-number.invariant.once frame)
