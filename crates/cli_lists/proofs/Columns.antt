-- The list of a row, and the row of a list, found in a column.
use Rattle.std.proofs.Common.{◌≡◌, ◌↔◌, ℕ, ◌+◌, ◌-◌, ◌<◌, ◌≤◌, true, false, List, length, get_or, leb, leb-true, inl, inr, ap, arith}
use Rattle.std.proofs.lemmas.Bool.{cases_lt}
use Rattle.std.proofs.lemmas.List.{get_or_default}
use Rattle.std.proofs.lemmas.List.Sorted.{IsPartitionedBy-leb}
use Rattle.std.specs.List.Sorted.{IsPartitionPoint, IsPartitionedBy, IsNonDecreasing}
use Rattle.cli_lists.specs.Starts.{cell_of, IsInList}
use Rattle.cli_lists.specs.Lists.{IsListColumn}
use Rattle.cli_lists.specs.declared.column.ListColumn.{ListColumn}
use Rattle.cli_lists.proofs.Stretches.{never_falls}

-- a cell by its index
at_index : (cells : List ℕ) (i : ℕ) → cell_of cells (i + 1) ≡ get_or cells i 0
at_index cells i = let same : (i + 1) - 1 ≡ i = omega arith in ap (λ (k : ℕ). get_or cells k 0) same

pub list_exact : (c : ListColumn) (k end : ℕ) → IsListColumn c → 1 ≤ k → k ≤ length c.cells → (k < length c.cells → end ≡ get_or c.cells k 0) → (length c.cells ≤ k → end ≡ c.rows + 1) → (n : ℕ) → ((cell_of c.cells k ≤ n) × (n < end)) ↔ IsInList c.rows c.cells k n
list_exact c k end column low high next last n = (
  λ both. record {
    low = low;
    high = high;
    from = both.0;
    within = elim (cases_lt k (length c.cells)) [
      | inl lt ↦ omega (arith, both.1, next lt, at_index c.cells k, (column.starts (k + 1) (omega arith) (omega (arith, lt))).high)
      | inr ge ↦ omega (arith, both.1, last ge)
    ];
    before_next = λ lt. omega (arith, both.1, next lt, at_index c.cells k);
  },
  λ in_list. (
    in_list.from,
    elim (cases_lt k (length c.cells)) [
      | inl lt ↦ omega (arith, in_list.before_next lt, next lt, at_index c.cells k)
      | inr ge ↦ omega (arith, in_list.within, last ge)
    ],
  ),
)

pub nondecreasing : (c : ListColumn) → IsListColumn c → IsNonDecreasing c.cells
nondecreasing c column i j d le lt =
    let up : cell_of c.cells (i + 1) ≤ cell_of c.cells (j + 1) = never_falls c.rows c.cells column.starts (i + 1) (j + 1) (omega arith) (omega (arith, le)) (omega (arith, lt)) in
    omega (arith, up, at_index c.cells i, at_index c.cells j, get_or_default c.cells i d 0 (omega (arith, le, lt)), get_or_default c.cells j d 0 lt)

pub parted : (c : ListColumn) (n : ℕ) → IsListColumn c → IsPartitionedBy (λ (x : ℕ). leb x n) c.cells
parted c n column = IsPartitionedBy-leb (λ (x : ℕ). x) c.cells n (nondecreasing c column)

not_leb : (m n : ℕ) → leb m n ≡ false → n < m
not_leb m n h = elim (cases_lt n m) [
  | inl lt ↦ lt
  | inr le ↦ absurd (grind (arith))
]

abbrev IsPoint : ListColumn → ℕ → ℕ → Type 0
IsPoint c n p = IsPartitionPoint (λ (x : ℕ). leb x n ≡ true) (λ (x : ℕ). leb x n ≡ false) c.cells p

pub owner_there : (c : ListColumn) (p n : ℕ) → IsListColumn c → IsPoint c n p → p ≤ length c.cells → n ≤ c.rows → 1 ≤ p → IsInList c.rows c.cells p n
owner_there c p n column point bound within some = record {
  low = some;
  high = bound;
  from = leb-true _ _ (point.0 (p - 1) 0 (omega arith) (omega (arith, some)));
  within = within;
  before_next = λ lt. omega (arith, not_leb _ _ (point.1 p 0 (omega arith) lt), at_index c.cells p);
}

pub no_owner : (c : ListColumn) (n p : ℕ) → IsPoint c n p → p ≡ 0 → (k : ℕ) → IsInList c.rows c.cells k n → ⊥
no_owner c n p point none k in_list =
    absurd (omega (arith, in_list.from, not_leb _ _ (point.1 (k - 1) 0 (omega (arith, none)) (omega (arith, in_list.low, in_list.high)))))
