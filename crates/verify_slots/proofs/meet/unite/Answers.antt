use Rattle.std.proofs.Common.{subst, Option}
use Rattle.verify_slots.specs.declared.slot.Slot.{Slot}
use Rattle.verify_slots.specs.Slots.{IsIn, Unite}
use Rattle.verify_slots.proofs.United.{apart_by_length, apart_at, united_more}
use Rattle.verify_slots.proofs.meet.unite.Goals as goal

pub returns-then-one-other : goal.returns-then-one-other
returns-then-one-other c = apart_by_length c.args.one.now c.args.other.now c.if-one-other.true

pub returns-in-None : goal.returns-in-None
returns-in-None c =
    let apart = subst (λ (r : Option Slot). Unite IsIn c.index-one-number.result c.index-other-number.result r) c.in-None.is c.in_ok-slot.ensures in
    apart_at c.args.one.now c.args.other.now c.loop-number.number c.index-one-number.result c.index-other-number.result c.loop-number-test.true c.if-one-other.false c.index-one-number.is c.index-other-number.is apart

pub loop-number-preserved : goal.loop-number-preserved
loop-number-preserved c =
    let least = subst (λ (r : Option Slot). Unite IsIn c.index-one-number.result c.index-other-number.result r) c.in-Some.is c.in_ok-slot.ensures in
    rw c.in_ok-push-in-Some.ensures.items (united_more c.args.one.now c.args.other.now c.loop-number.united.items c.loop-number.number c.index-one-number.result c.index-other-number.result c.in-Some.slot c.loop-number-test.true c.if-one-other.false c.index-one-number.is c.index-other-number.is c.loop-number.invariant least)
