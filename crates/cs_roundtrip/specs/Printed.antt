-- What comes of a text that is printed and then read (ECMA-334, clauses 6 and 14 to 20).
use Rattle.std.specs.Prelude.{◌≡◌, Result, Ok, Err}
use Rattle.dc_base.specs.declared.failure.Or.{Or}
use Rattle.dc_base.specs.declared.failure.Or.TheVariants.{NoMemory, Fault as WithFault}
use Rattle.cs_tree.specs.declared.declarations.Unit.{Unit as WholeText}
use Rattle.cs_tree.specs.BareUnits.{bare_unit}
use Rattle.cs_statements.specs.Blocks.{text_levels, text_ranks, text_blocks}
use Rattle.cs_roundtrip_units.specs.Units.{IsWellFormedUnit}
use Rattle.cs_roundtrip_texts.specs.Notes.{unit_notes, AreTexts}
use Rattle.cs_read_texts.specs.declared.fault.ReadFault.{ReadFault}
use Rattle.cs_read.specs.Depths.{text_nesting}

-- a text that the grammar can spell within the depths of a text, with notes in UTF-8
abbrev pub IsPrintable : WholeText → Type 0
IsPrintable u = IsWellFormedUnit text_levels text_ranks text_blocks text_nesting u × AreTexts (unit_notes u)

-- the same text but for its places and notes, and no fault; want of memory is free
abbrev pub IsReadBack : WholeText → Result WholeText (Or ReadFault) → Type 0
IsReadBack u (Ok v) = bare_unit v ≡ bare_unit u
IsReadBack u (Err (WithFault fault)) = ⊥
IsReadBack u (Err NoMemory) = Unit {0}
