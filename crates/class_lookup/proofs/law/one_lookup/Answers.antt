use Rattle.class_lookup.proofs.One.{lookups_are_one}
use Rattle.class_lookup.proofs.law.one_lookup.Goals as goal

pub returns : goal.returns
returns c = lookups_are_one
