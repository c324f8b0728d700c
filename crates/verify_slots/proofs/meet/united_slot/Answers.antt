use Rattle.verify_slots.proofs.meet.united_slot.Goals as goal

pub returns-in-Truth : goal.returns-in-Truth
returns-in-Truth c = rw c.in-Truth.is c.with_truth.ensures

pub returns-in-Int : goal.returns-in-Int
returns-in-Int c = rw c.in-Int.is c.with_int.ensures

pub returns-in-Long : goal.returns-in-Long
returns-in-Long c = rw c.in-Long.is c.with_long.ensures

pub returns-in-Length : goal.returns-in-Length
returns-in-Length c = rw c.in-Length.is c.with_length.ensures

pub returns-in-Opaque : goal.returns-in-Opaque
returns-in-Opaque c = rw c.in-Opaque.is c.with_opaque.ensures

pub returns-in-Lent : goal.returns-in-Lent
returns-in-Lent c = rw c.in-Lent.is c.with_lent.ensures

pub returns-in-Code : goal.returns-in-Code
returns-in-Code c = rw c.in-Code.is c.with_code.ensures
