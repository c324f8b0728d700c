use Rattle.std.proofs.Common.{sym}
use Rattle.pe_image.proofs.Ranges.{range_at-within}
use Rattle.pe_image.proofs.Tables.{table_within}
use Rattle.pe_image.proofs.image.Image.at.Goals as goal

pub of-requires : goal.of-requires
of-requires c =
    (range_at-within c.self.inside.file.now _ c.args.rva c.args.len c.in_ok-range.range (table_within c.self.inside.file.now c.self.inside.table c.self.invariant.table) (sym c.in_ok-range.ensures)).0
