use Rattle.std.proofs.Common.{◌≡◌, drop}
use Rattle.cs_declared.specs.Names.{joined, joined_onto}
use Rattle.cs_declared.proofs.scope.joined.Given as goal

abbrev pub invariant-loop-name : goal.invariant-loop-name
invariant-loop-name l = joined_onto l.text (drop l.name-index l.names) ≡ joined l.names
