use Rattle.std.proofs.Common.{◌≡◌, ℕ, false, length, slice_index_or}
use Rattle.cli_reached.proofs.found.unmarked.Given as goal

abbrev pub invariant-loop-row : goal.invariant-loop-row
invariant-loop-row l =
    record {
      len : length l.marks.items ≡ l._row;
      none : (n : ℕ) → slice_index_or l.marks.items n false ≡ false;
    }
