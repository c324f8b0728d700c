use Rattle.std.proofs.lemmas.Option.{slice_get_within}
use Rattle.class_table.proofs.parts.kept_of.Goals as goal

pub supers_of-requires-clause-there : goal.supers_of-requires-clause-there
supers_of-requires-clause-there c = λ t i named.
    let has = (c.in_ok-orders.ensures.table.bases_are_there t).interfaces i named in
    slice_get_within c.args.types.now i has.row has.stands
