-- A table of section headers, and the sections that it lists (ECMA-335 II.25.3).
use Rattle.std.specs.Prelude.{ℕ, zero, suc, ◌+◌, ◌*◌, ◌<◌, List, [], ◌∷◌, drop}
use Rattle.pe_image.specs.declared.sections.Section.{Section}
use Rattle.pe_image.specs.declared.sections.Table.{Table}
use Rattle.pe_image.specs.Sections.{section_of, IsSection}

-- what so many section headers from this place on say
abbrev pub sections_from : List ℕ → ℕ → ℕ → List Section
sections_from file place zero = []
sections_from file place (suc n) = section_of (drop place file) ∷ sections_from file (place + 40) n

abbrev pub sections_of : List ℕ → Table → List Section
sections_of file table = sections_from file table.place table.count

-- each section header is in the file, and so are the raw bytes that it speaks of
abbrev pub IsTable : List ℕ → Table → Type 0
IsTable file table =
    (k : ℕ) → k < table.count → IsSection file (table.place + 40 * k) (section_of (drop (table.place + 40 * k) file))
