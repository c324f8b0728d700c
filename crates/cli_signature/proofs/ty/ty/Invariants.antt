use Rattle.std.proofs.Common.{length, ◌-◌, ◌≡◌, ◌≤◌, ◌+◌, drop, ℕ, List, ◌++◌}
use Rattle.cli_signature.proofs.Marks.{Inside}
use Rattle.cli_signature.proofs.ty.ty.Given as goal

abbrev pub invariant-loop-place : goal.invariant-loop-place
invariant-loop-place l =
    record {
      within : l.place ≤ length l.blob;
      low : l.arrays ≤ 255;
      marks : (p : List ℕ) × (drop l.fn.at l.blob ≡ p ++ drop l.place l.blob) × (l.place ≡ l.fn.at + length p) × Inside l.fn.slot l.slot p l.lent l.arrays;
    }

abbrev pub decreases-loop-place : goal.decreases-loop-place
decreases-loop-place l = length l.blob - l.place
