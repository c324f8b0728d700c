use Rattle.std.proofs.Common.{◌≡◌, ◌++◌, length}
use Rattle.std.specs.List.{filter}
use Rattle.class_search.specs.Left.{CanSearch, types_left}
use Rattle.class_lookup.specs.Stand.{may_stand}
use Rattle.class_lookup.specs.Left.{all_found, rest_left}
use Rattle.class_lookup.proofs.rest.first_found.Given as goal

abbrev pub invariant-loop-m : goal.invariant-loop-m
invariant-loop-m l =
    CanSearch l.search
    × (rest_left l.members l.named l.name l.fn.rest ≡ filter (may_stand l.members l.named.nameless) l.those ++ all_found l.members l.named.nameless l.name (types_left l.search))

abbrev pub decreases-loop-m : goal.decreases-loop-m
decreases-loop-m l = length (types_left l.search)
