use Rattle.std.proofs.Common.{◌≡◌, ◌++◌, drop}
use Rattle.verify_rules.specs.Results.{elements}
use Rattle.verify_results.proofs.array.elements.Given as goal

abbrev pub invariant-loop-array : goal.invariant-loop-array
invariant-loop-array l = l.types.items ++ elements (drop l.array-index l.set) ≡ elements l.set
