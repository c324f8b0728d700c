use Rattle.cs_meaning.specs.Typed as typed
use Rattle.cs_meaning.proofs.tests.adds_two_arguments.Goals as goal

pub called-requires : goal.called-requires
called-requires g c = typed.add
