-- What clauses see of an image in memory.
use Rattle.std.specs.Prelude.{◌+◌, ◌≤◌, ◌^◌, length}
use Rattle.pe_image.specs.declared.image.Image.TheInside.{Inside}
use Rattle.pe_image.specs.Table.{sections_of, IsTable}
use Rattle.pe_image.specs.Image.{Parts}

abbrev pub parts_of : Inside → Parts
parts_of i = record { file = i.file.now; sections = sections_of i.file.now i.table; metadata = i.metadata }

-- the sections and the metadata are in the file
pub record IsSound (i : Inside) : Type 0 where
  pub short : length i.file.now ≤ 2 ^ 31
  pub table : IsTable i.file.now i.table
  pub metadata : i.metadata.start + i.metadata.len ≤ length i.file.now
