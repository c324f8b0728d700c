-- The first thing of which a fact doesn't hold, and the least number of which one does.
use Rattle.std.specs.Prelude.{◌≡◌, ℕ, ◌<◌, List, length, slice_index_or}

-- this is the first item for which the fact doesn't hold
pub record IsFirstOff {X : Type 0} (Fact : X → Type 0) (items : List X) (item : X) : Type 0 where
  pub index : ℕ
  pub within : index < length items
  pub is : slice_index_or items index item ≡ item
  pub before : (k : ℕ) (d : X) → k < index → Fact (slice_index_or items k d)
  pub off : Fact item → ⊥

-- this is the least number for which the fact holds
pub record IsLeast (Fact : ℕ → Type 0) (n : ℕ) : Type 0 where
  pub holds : Fact n
  pub least : (m : ℕ) → m < n → Fact m → ⊥
