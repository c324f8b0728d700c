use Rattle.std.proofs.Common.{◌≡◌, ◌∷◌, take}
use Rattle.std.specs.List.{flat_map, enumerate_from}
use Rattle.cil_regions.specs.Region.{whole_code, begun_by}
use Rattle.cil_regions.proofs.span.spans.Given as goal

abbrev pub invariant-loop-i : goal.invariant-loop-i
invariant-loop-i l =
    l.spans.items ≡ whole_code l.body ∷ flat_map (begun_by l.body.clauses) (take l.i (enumerate_from 0 l.body.clauses))
