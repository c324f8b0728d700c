use Rattle.std.proofs.Common.{◌≡◌, ℕ, false, length, slice_index_or}
use Rattle.cil_aims.proofs.marks.unmarked.Given as goal

abbrev pub invariant-loop-n : goal.invariant-loop-n
invariant-loop-n l =
    record {
      len : length l.marks.items ≡ l._n;
      none : (n : ℕ) → slice_index_or l.marks.items n false ≡ false;
    }
