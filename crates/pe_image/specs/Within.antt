-- Sections whose raw bytes are in a file.
use Rattle.std.specs.Prelude.{ℕ, ◌+◌, ◌<◌, ◌≤◌, List, length, slice_index_or}
use Rattle.pe_image.specs.declared.sections.Section.{Section}

-- the raw bytes of each section are in the file
abbrev pub AreWithin : List ℕ → List Section → Type 0
AreWithin file sections =
    (k : ℕ) (d : Section) → k < length sections → (slice_index_or sections k d).start + (slice_index_or sections k d).size ≤ length file
