use Rattle.std.proofs.Common.{◌≡◌, ◌⊎◌, ℕ, ◌<◌, true, false, length, get_or}
use Rattle.std.specs.List.{Contains}
use Rattle.verify_spots.proofs.aim.mark.Given as goal

abbrev pub invariant-loop-to : goal.invariant-loop-to
invariant-loop-to l = record {
  as_many : length l.marks.items ≡ length l.fn.marks.items;
  some : (i : ℕ) → get_or l.marks.items i false ≡ true → (get_or l.fn.marks.items i false ≡ true) ⊎ Contains l.aims i;
  kept : (i : ℕ) → get_or l.fn.marks.items i false ≡ true → get_or l.marks.items i false ≡ true;
  all : (k : ℕ) → k < l.to-index → get_or l.aims k 0 < length l.fn.marks.items → get_or l.marks.items (get_or l.aims k 0) false ≡ true;
}
