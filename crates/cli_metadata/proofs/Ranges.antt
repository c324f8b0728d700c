-- What metadata holds, in ranges of bytes.
use Rattle.std.proofs.Common.{ℕ, ◌+◌, ◌-◌, ◌*◌, ◌≤◌, length, arith}
use Rattle.cli_metadata.specs.Numbers.{number_of}
use Rattle.cli_metadata.specs.Widths.{row_width}
use Rattle.cli_metadata.specs.Metadata.{nowhere, placed_of}
use Rattle.cli_metadata.specs.Laws.{RowsAreWithin}
use Rattle.cli_metadata.proofs.Places.{placed-at}

row-fits : (start rows width n len : ℕ) → 1 ≤ n → n ≤ rows → start + rows * width ≤ len → start + (n - 1) * width + width ≤ len
row-fits start rows width n len low high whole = grind arith

pub rows_are_within : RowsAreWithin
rows_are_within bytes m table n w low high =
    let p = placed_of m table in
    row-fits p.start p.rows (row_width p.widths) n (length m.stream) low high (placed-at (length m.stream) m.tables (number_of table) nowhere (omega arith) w.tables.whole)
