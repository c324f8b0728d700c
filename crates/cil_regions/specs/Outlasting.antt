-- For each region the next one that ends behind it.
use Rattle.std.specs.Prelude.{◌≡◌, ℕ, ◌<◌, ◌≤◌, List, length, slice_index, slice_index_or}
use Rattle.cil_regions.specs.declared.region.Span.{Span}
use Rattle.cil_regions.specs.Laid.{Crosses}

-- a later region crosses the region of this number
abbrev pub IsCrossed : List Span → ℕ → Type 0
IsCrossed spans i =
    (j : ℕ) × (i < j) × (j < length spans) × ((d : Span) → Crosses (slice_index_or spans i d) (slice_index_or spans j d))

-- behind the region of number i, the region of number `next` is the first that ends behind it, or where none does it is
-- the number of all
pub record IsOutlasting (spans : List Span) (i next : ℕ) : Type 0 where
  pub after : i < next
  pub few : next ≤ length spans
  pub between : (j : ℕ) (d : Span) → i < j → j < next → (slice_index_or spans j d).to ≤ (slice_index_or spans i d).to
  pub ends : (d : Span) → next < length spans → (slice_index_or spans i d).to < (slice_index_or spans next d).to

-- the table has it for each region from this number on
pub record AreOutlasting (spans : List Span) (from : ℕ) (table : List ℕ) : Type 0 where
  pub as_many : length table ≡ length spans
  pub each : (i : ℕ) → from ≤ i → i < length spans → IsOutlasting spans i (slice_index table i)
