use Rattle.cs_meaning.specs.Typed as typed
use Rattle.cs_meaning.proofs.tests.subtracts_the_right_from_the_left.Goals as goal

pub called-requires : goal.called-requires
called-requires g c = typed.sub
