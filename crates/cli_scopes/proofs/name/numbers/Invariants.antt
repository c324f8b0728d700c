use Rattle.std.proofs.Common.{drop}
use Rattle.cli_scopes.specs.Numbered.{AreNumbered}
use Rattle.cli_scopes.proofs.name.numbers.Given as goal

abbrev pub invariant-loop-index : goal.invariant-loop-index
invariant-loop-index l = AreNumbered l.index (drop l.index l.names) l.numbers.entries
