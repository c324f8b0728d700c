-- What follows from the definitions of an image.
use Rattle.std.specs.Prelude.{◌≡◌, ℕ, ◌+◌, ◌≤◌, List, length, Some}
use Rattle.pe_image.specs.declared.fault.ImageFault.{ImageFault}
use Rattle.pe_image.specs.declared.sections.Section.{Section}
use Rattle.pe_image.specs.declared.sections.Span.{Span}
use Rattle.pe_image.specs.Sections.{range_at, range_from}
use Rattle.pe_image.specs.Image.{IsImage}
use Rattle.pe_image.specs.Fault.{IsImageFault}

-- a file is an image in one way
abbrev pub HasOneReading : Type 0
HasOneReading =
    (file : List ℕ) (sections others : List Section) (metadata other : Span) → IsImage file sections metadata → IsImage file others other
    → (sections ≡ others) × (metadata ≡ other)

-- a file with a fault is no image
abbrev pub HasNoFault : Type 0
HasNoFault =
    (file : List ℕ) (sections : List Section) (metadata : Span) (fault : ImageFault) → IsImage file sections metadata → IsImageFault file fault
    → ⊥

-- a file has one fault
abbrev pub HasOneFault : Type 0
HasOneFault = (file : List ℕ) (fault other : ImageFault) → IsImageFault file fault → IsImageFault file other → fault ≡ other

-- the bytes at addresses that an image holds are in its file
abbrev pub RangesAreWithin : Type 0
RangesAreWithin =
    (file : List ℕ) (sections : List Section) (metadata : Span) → IsImage file sections metadata → (rva len : ℕ) (range : Span)
    → range_at sections rva len ≡ Some range → range.start + range.len ≤ length file

-- so are those up to the end of a section
abbrev pub RestsAreWithin : Type 0
RestsAreWithin =
    (file : List ℕ) (sections : List Section) (metadata : Span) → IsImage file sections metadata → (rva : ℕ) (range : Span)
    → range_from sections rva ≡ Some range → range.start + range.len ≤ length file

-- and so is the metadata
abbrev pub MetadataIsWithin : Type 0
MetadataIsWithin =
    (file : List ℕ) (sections : List Section) (metadata : Span) → IsImage file sections metadata
    → metadata.start + metadata.len ≤ length file
