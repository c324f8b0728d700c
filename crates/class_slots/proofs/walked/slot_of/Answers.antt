use Rattle.std.proofs.lemmas.Option.{slice_get_within}
use Rattle.class_rows.specs.Lookups.{itself}
use Rattle.class_slots.proofs.Under.{above_told, slot_taken}
use Rattle.class_slots.proofs.walked.slot_of.Goals as goal

pub bounds-slots-n : goal.bounds-slots-n
bounds-slots-n c =
    let known = c.args.known.now in
    let told = above_told known.types.now known.members.now known.explicit.now c.args.slots.now c.args.t.0 c.args.m c.in-Some.n c.requires.above c.requires.owned c.in-Some.ensures.some in
    slice_get_within c.args.slots.now c.in-Some.n told.0 told.1

pub returns-in-Some : goal.returns-in-Some
returns-in-Some c =
    let known = c.args.known.now in
    let told = above_told known.types.now known.members.now known.explicit.now c.args.slots.now c.args.t.0 c.args.m c.in-Some.n c.requires.above c.requires.owned c.in-Some.ensures.some in
    slot_taken known.types.now known.members.now known.explicit.now c.args.slots.now c.args.m c.in-Some.n 0 c.in-Some.ensures.some told

pub returns-in-None : goal.returns-in-None
returns-in-None c = itself c.args.m c.in-None.ensures.none
