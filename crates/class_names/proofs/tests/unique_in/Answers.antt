use Rattle.std.proofs.Common.{refl}
use Rattle.class_names.proofs.tests.unique_in.Goals as goal

pub unique_names-requires-clause-outers : goal.unique_names-requires-clause-outers
unique_names-requires-clause-outers c = c.if-not-outers_are_there.ensures refl
