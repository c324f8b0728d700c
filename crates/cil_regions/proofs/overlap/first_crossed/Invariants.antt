use Rattle.std.proofs.Common.{ℕ, ◌<◌, length, get_or}
use Rattle.cil_regions.specs.declared.region.Span.{Span}
use Rattle.cil_regions.specs.Region.{AreLaminar}
use Rattle.cil_regions.proofs.overlap.first_crossed.Given as goal

abbrev pub invariant-loop-i : goal.invariant-loop-i
invariant-loop-i l =
    (a b : ℕ) (d : Span) → a < l.i → a < b → b < length l.spans → AreLaminar (get_or l.spans a d) (get_or l.spans b d)
