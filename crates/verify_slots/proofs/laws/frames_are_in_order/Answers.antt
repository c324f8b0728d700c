use Rattle.verify_slots.proofs.Order.{slots_in_order, frames_in_order}
use Rattle.verify_slots.proofs.laws.frames_are_in_order.Goals as goal

pub returns-clause-slots : goal.returns-clause-slots
returns-clause-slots c = slots_in_order

pub returns-clause-frames : goal.returns-clause-frames
returns-clause-frames c = frames_in_order
