use Rattle.std.proofs.Common.{◌≡◌, ℕ, ◌<◌, ◌||◌, ◌==◌, false, length, slice_index_or, take}
use Rattle.std.specs.List.{list_any}
use Rattle.cil_aims.proofs.marks.mark.Given as goal

abbrev pub invariant-loop-aim : goal.invariant-loop-aim
invariant-loop-aim l =
    (n : ℕ) → n < length l.initial.marks
    → slice_index_or l.marks n false ≡ (slice_index_or l.initial.marks n false || list_any (λ aim. aim == n) (take l.aim-index l.aims))
