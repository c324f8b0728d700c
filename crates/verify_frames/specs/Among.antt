-- Of some slots one is so, or none.
use Rattle.std.specs.Prelude.{◌≡◌, ℕ, ◌<◌, List, Some, length, slice_get}
use Rattle.verify_slots.specs.declared.slot.Slot.{Slot}

abbrev pub HasSome : (Slot → Type 0) → List Slot → Type 0
HasSome Is slots = (k : ℕ) × (slot : Slot) × (slice_get slots k ≡ Some slot) × Is slot

abbrev pub HasNoneBelow : (Slot → Type 0) → List Slot → ℕ → Type 0
HasNoneBelow Is slots n = (k : ℕ) (slot : Slot) → k < n → slice_get slots k ≡ Some slot → Is slot → ⊥

abbrev pub HasNone : (Slot → Type 0) → List Slot → Type 0
HasNone Is slots = HasNoneBelow Is slots (length slots)
