use Rattle.std.proofs.Common.{◌≡◌, ◌++◌, map, take}
use Rattle.verify_rules.specs.Gap.{makers}
use Rattle.verify_rules.specs.Results.{settled}
use Rattle.verify_results.proofs.result.put_settled.Given as goal

abbrev pub invariant-loop-slot : goal.invariant-loop-slot
invariant-loop-slot l = l.slots.items ≡ l.initial.slots.items ++ map (settled (makers l.used)) (take l.slot-index l.rest)
