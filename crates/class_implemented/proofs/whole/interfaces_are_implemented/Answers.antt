use Rattle.std.proofs.lemmas.Option.{slice_get_within}
use Rattle.class_implemented.proofs.whole.interfaces_are_implemented.Goals as goal

pub spreads_of-requires-clause-there : goal.spreads_of-requires-clause-there
spreads_of-requires-clause-there c = λ t i named.
    let fit = (c.requires.bases t).interfaces i named in slice_get_within c.args.types.now i fit.row fit.stands
