use Rattle.std.proofs.Common.{◌≡◌, length}
use Rattle.std.specs.List.{filter}
use Rattle.class_lookup.specs.Stand.{may_stand}
use Rattle.class_lookup.proofs.rest.first_that_stands.Given as goal

abbrev pub invariant-loop-m : goal.invariant-loop-m
invariant-loop-m l = filter (may_stand l.members l.named.nameless) l.those ≡ filter (may_stand l.members l.named.nameless) l.left

abbrev pub decreases-loop-m : goal.decreases-loop-m
decreases-loop-m l = length l.left
