use Rattle.std.proofs.Common.{◌≡◌, length}
use Rattle.class_search.specs.Left.{CanSearch, types_left}
use Rattle.class_lookup.specs.Left.{all_found}
use Rattle.class_lookup.proofs.found.found_in.Given as goal

abbrev pub invariant-loop-t : goal.invariant-loop-t
invariant-loop-t l =
    CanSearch l.search
    × (all_found l.members l.named.nameless l.name (types_left l.fn.search) ≡ all_found l.members l.named.nameless l.name (types_left l.search))

abbrev pub decreases-loop-t : goal.decreases-loop-t
decreases-loop-t l = length (types_left l.search)
