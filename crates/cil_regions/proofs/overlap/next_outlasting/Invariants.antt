use Rattle.std.proofs.Common.{ℕ, ◌-◌, ◌<◌, ◌≤◌, length, get_or}
use Rattle.cil_regions.specs.declared.region.Span.{Span}
use Rattle.cil_regions.proofs.overlap.next_outlasting.Given as goal

abbrev pub invariant-loop-next : goal.invariant-loop-next
invariant-loop-next l = record {
  after : l.i < l.next;
  few : l.next ≤ length l.spans;
  between : (j : ℕ) (d : Span) → l.i < j → j < l.next → (get_or l.spans j d).to ≤ (get_or l.spans l.i d).to;
}

abbrev pub decreases-loop-next : goal.decreases-loop-next
decreases-loop-next l = length l.spans - l.next
