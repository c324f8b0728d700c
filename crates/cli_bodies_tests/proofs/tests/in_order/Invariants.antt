use Rattle.std.proofs.Common.{ℕ, ◌<◌}
use Rattle.std.proofs.Common.{slice_index_or}
use Rattle.dc_base.specs.declared.names.Token.{Token}
use Rattle.cli_assembly.specs.declared.meaning.Named.{Named}
use Rattle.cli_assembly.specs.Meaning.{number_of}
use Rattle.cli_bodies_tests.proofs.tests.in_order.Given as goal

abbrev pub invariant-loop-k : goal.invariant-loop-k
invariant-loop-k l =
    (i j : ℕ) (d : Token × Named) → i < j → j < l.k → number_of (slice_index_or l.tokens i d) < number_of (slice_index_or l.tokens j d)
