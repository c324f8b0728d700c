-- What clauses see of an index in memory.
use Rattle.std.specs.Prelude.{◌≤◌, ◌^◌, length}
use Rattle.pe_image.specs.declared.index.ImageIndex.TheInside.{Inside}
use Rattle.pe_image.specs.Within.{AreWithin}
use Rattle.pe_image.specs.Blocks.{AreBlocks}
use Rattle.pe_image.specs.Image.{IndexParts}

abbrev pub index_parts_of : Inside → IndexParts
index_parts_of i = record { file = i.file.now; sections = i.sections.items }

-- the sections are in the file, and so are their blocks in memory, of 64 and of 2,048
pub record IsSoundIndex (i : Inside) : Type 0 where
  pub short : length i.file.now ≤ 2 ^ 31
  pub few : length i.sections.items ≤ 2 ^ 16
  pub within : AreWithin i.file.now i.sections.items
  pub blocks : AreBlocks i.sections.items 64 i.blocks.items
  pub wide : AreBlocks i.sections.items 2048 i.wide.items
