-- The lines that are written where there is no text.
use Rattle.std.specs.Prelude.{ℕ, ◌/◌, ◌%◌, List, [], ◌∷◌, ◌++◌, false, codes}
use Rattle.std.specs.Fmt.{decimal, digit_glyph}
use Rattle.pe_image.specs.declared.fault.ImageFault.{ImageFault}
use Rattle.pe_image.specs.declared.fault.ImageCause.{ImageCause}
use Rattle.pe_image.specs.declared.fault.ImageCause.TheVariants.{NotPe, BadSection, NoCli, NotIlOnly}
use Rattle.cli_metadata.specs.declared.fault.MetaFault.{MetaFault}
use Rattle.cli_metadata.specs.declared.fault.MetaCause.{MetaCause}
use Rattle.cli_metadata.specs.declared.fault.MetaCause.TheVariants.{BadRoot, BadStream, BadHeader, UnknownTable, Truncated as TruncatedTables, BadIndex, BadText, BadBlob}
use Rattle.cil_lone.specs.declared.standalone.LoneFault.{LoneFault}
use Rattle.cil_lone.specs.declared.standalone.LoneFault.TheVariants.{BadHeader, Truncated, NotYet, Underflow, BadReturn, Trailing}

abbrev pub line_end : List ℕ
line_end = 10 ∷ []

abbrev pub usage_line : List ℕ
usage_line = codes "usage: ilspy body FILE | show ASM | verify ASM REFS | decompile ASM REFS [--workers N] | check ASM REFS SOURCE | make SEED METHODS" ++ line_end

abbrev pub cannot_read_line : List ℕ → List ℕ
cannot_read_line name = codes "fault: cannot read " ++ name ++ line_end

abbrev pub too_big_line : List ℕ → List ℕ
too_big_line name = codes "refused: TooBig " ++ name ++ line_end

-- a byte as two lower-case hexadecimal digits
abbrev pub hex_byte : ℕ → List ℕ
hex_byte byte = digit_glyph false (byte / 16) ∷ digit_glyph false (byte % 16) ∷ []

abbrev pub bad_body_line : List ℕ → ℕ → List ℕ
bad_body_line cause place = codes "refused: BadBody " ++ (cause ++ (codes " at " ++ (decimal place ++ line_end)))

-- the line of a fault: its cause by name, or the byte that is not taken yet, and its place
abbrev pub fault_line : LoneFault → List ℕ
fault_line (BadHeader place) = bad_body_line (codes "BadHeader") place
fault_line (Truncated place) = bad_body_line (codes "Truncated") place
fault_line (NotYet byte place) = codes "refused: NotYet " ++ (hex_byte byte ++ (codes " at " ++ (decimal place ++ line_end)))
fault_line (Underflow place) = bad_body_line (codes "Underflow") place
fault_line (BadReturn place) = bad_body_line (codes "BadReturn") place
fault_line (Trailing place) = bad_body_line (codes "Trailing") place

-- the cause of a fault of an image, by name
abbrev pub image_cause : ImageCause → List ℕ
image_cause NotPe = codes "NotPe"
image_cause BadSection = codes "BadSection"
image_cause NoCli = codes "NoCli"
image_cause NotIlOnly = codes "NotIlOnly"

abbrev pub bad_image_line : ImageFault → List ℕ
bad_image_line fault = codes "refused: BadImage " ++ (image_cause fault.cause ++ (codes " at " ++ (decimal fault.place ++ line_end)))

-- the cause of a fault of metadata, by name
abbrev pub metadata_cause : MetaCause → List ℕ
metadata_cause BadRoot = codes "BadRoot"
metadata_cause BadStream = codes "BadStream"
metadata_cause BadHeader = codes "BadHeader"
metadata_cause UnknownTable = codes "UnknownTable"
metadata_cause TruncatedTables = codes "Truncated"
metadata_cause BadIndex = codes "BadIndex"
metadata_cause BadText = codes "BadText"
metadata_cause BadBlob = codes "BadBlob"

abbrev pub bad_metadata_line : MetaFault → List ℕ
bad_metadata_line fault = codes "refused: BadMeta " ++ (metadata_cause fault.cause ++ (codes " at " ++ (decimal fault.place ++ line_end)))

-- the token of the first row of the assembly table stands before the cause
abbrev pub bad_name_line : MetaCause → List ℕ
bad_name_line cause = codes "refused: BadMeta 20000001 " ++ (metadata_cause cause ++ line_end)
