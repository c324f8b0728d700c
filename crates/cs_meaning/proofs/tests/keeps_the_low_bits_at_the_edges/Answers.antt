use Rattle.cs_meaning.specs.Typed as typed
use Rattle.cs_meaning.proofs.tests.keeps_the_low_bits_at_the_edges.Goals as goal

pub called-requires : goal.called-requires
called-requires g c = typed.add

pub called-requires-2 : goal.called-requires-2
called-requires-2 g c = typed.sub

pub called-requires-3 : goal.called-requires-3
called-requires-3 g c = typed.mul

pub called-requires-4 : goal.called-requires-4
called-requires-4 g c = typed.mul
