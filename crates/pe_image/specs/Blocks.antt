-- Sections in blocks, each of which tells how far its sections reach.
use Rattle.std.specs.Prelude.{ℕ, ◌+◌, ◌*◌, ◌<◌, ◌≤◌, List, length, slice_index_or}
use Rattle.std.specs.List.Sorted.{IsNonDecreasingBy}
use Rattle.std.specs.Global.{Vec}
use Rattle.pe_image.specs.declared.blocks.Reach.{Reach}
use Rattle.pe_image.specs.declared.sections.Section.{Section}

-- each begins at the address of the one before it, or behind it
abbrev pub AreInOrder : List Reach → Type 0
AreInOrder reaches = IsNonDecreasingBy (λ (reach : Reach). reach.address) reaches

-- and so in each block
abbrev pub AreAllInOrder : List (Vec Reach) → Type 0
AreAllInOrder blocks = (i : ℕ) (b : Vec Reach) → i < length blocks → AreInOrder (slice_index_or blocks i b).items

-- one of them begins by the section's address, and from there on they end no earlier than the section
pub record Covers (reaches : List Reach) (s : Section) : Type 0 where
  pub at : ℕ
  pub within : at < length reaches
  pub begins : (d : Reach) → (slice_index_or reaches at d).address ≤ s.address
  pub ends : (i : ℕ) (d : Reach) → at ≤ i → i < length reaches → s.address + s.size ≤ (slice_index_or reaches i d).end

-- they are in order, and cover each of the sections
pub record AreReaches (sections : List Section) (reaches : List Reach) : Type 0 where
  pub in_order : AreInOrder reaches
  pub covered : (k : ℕ) (d : Section) → k < length sections → Covers reaches (slice_index_or sections k d)

-- there is one block at most for each section, and one that is there covers all sections that stand in it
pub record AreBlocks (sections : List Section) (width : ℕ) (blocks : List (Vec Reach)) : Type 0 where
  pub few : length blocks ≤ length sections
  pub in_order : AreAllInOrder blocks
  pub covered : (i k : ℕ) (b : Vec Reach) (d : Section) → i < length blocks → i * width ≤ k → k < (i + 1) * width → k < length sections → Covers (slice_index_or blocks i b).items (slice_index_or sections k d)

-- what the blocks from one number to another cover ends before this end, where it begins by the address
pub record AreShort (blocks : List (Vec Reach)) (from to rva end : ℕ) : Type 0 where
  pub within : (i : ℕ) → from ≤ i → i < to → i < length blocks
  pub short : (i : ℕ) (b : Vec Reach) (s : Section) → from ≤ i → i < to → Covers (slice_index_or blocks i b).items s → s.address ≤ rva → s.address + s.size < end
