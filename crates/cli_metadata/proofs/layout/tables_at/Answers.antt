use Rattle.std.proofs.Common.{◌≡◌, [], get_or, sym, arith}
use Rattle.std.specs.Prelude.{map, slice_index, Ok, Err}
use Rattle.std.proofs.lemmas.Result.{err_from_is_err_and}
use Rattle.std.proofs.Math.ListN.{length-set}
use Rattle.cli_metadata.specs.Widths.{width_of}
use Rattle.cli_metadata.specs.Layout.{table_at, tables_at}
use Rattle.cli_metadata.proofs.Places.{tables-more, tables-err, tables-none, tables-placed}
use Rattle.cli_metadata.proofs.layout.tables_at.Goals as goal

pub returns-in_err-table-clause-tables : goal.returns-in_err-table-clause-tables
returns-in_err-table-clause-tables c =
    let p = err_from_is_err_and c.from_residual.result c.from_residual.ensures.1 in
    let read : table_at (map (width_of c.args.prefix.sizes c.args.counts.now) (get_or c.args.tables.now c.loop-i.i [])) (slice_index c.args.counts.now c.loop-i.i) c.args.bytes.now c.loop-i.at ≡ Err c.in_err-table.field-0.0
    = rw (← c.widths_of-widths.ensures) (sym c.in_err-table.ensures.table) in
    rw (p.1, p.2) (tables-err c.args.prefix.sizes c.args.counts.now c.args.bytes.now c.args.tables.now c.loop-i.i c.loop-i.at c.in_err-table.field-0.0 c.loop-i.placed [] (tables_at c.args.prefix.sizes c.args.counts.now c.args.tables.now 0 c.args.bytes.now c.args.at) (omega (arith, c.told-tables)) read c.loop-i.invariant.0)

pub loop-i-preserved : goal.loop-i-preserved
loop-i-preserved c =
    let read : table_at (map (width_of c.args.prefix.sizes c.args.counts.now) (get_or c.args.tables.now c.loop-i.i [])) (slice_index c.args.counts.now c.loop-i.i) c.args.bytes.now c.loop-i.at ≡ Ok (c.in_ok-table.table, c.in_ok-table.end)
    = rw (← c.widths_of-widths.ensures) (sym c.in_ok-table.ensures.table) in (
      tables-more c.args.prefix.sizes c.args.counts.now c.args.bytes.now c.args.tables.now c.loop-i.i c.loop-i.at c.in_ok-table.table c.in_ok-table.end c.loop-i.placed [] (tables_at c.args.prefix.sizes c.args.counts.now c.args.tables.now 0 c.args.bytes.now c.args.at) (omega (arith, c.told-tables)) (omega (arith, c.loop-i.invariant.2)) read c.loop-i.invariant.0,
      c.in_ok-table.ensures.whole,
      rw length-set c.loop-i.invariant.2,
    )

pub returns-clause-placed : goal.returns-clause-placed
returns-clause-placed c =
    tables-placed c.args.prefix.sizes c.args.counts.now c.args.bytes.now c.args.tables.now 0 c.args.at c.loop-i.placed (sym
    (tables-none c.args.prefix.sizes c.args.counts.now c.args.bytes.now c.args.tables.now c.loop-i.i c.loop-i.at c.loop-i.placed (tables_at c.args.prefix.sizes c.args.counts.now c.args.tables.now 0 c.args.bytes.now c.args.at) (omega (arith, c.told-tables)) (omega (arith, c.loop-i.invariant.2)) c.loop-i.invariant.0))

pub returns-clause-tables : goal.returns-clause-tables
returns-clause-tables c =
    tables-none c.args.prefix.sizes c.args.counts.now c.args.bytes.now c.args.tables.now c.loop-i.i c.loop-i.at c.loop-i.placed (tables_at c.args.prefix.sizes c.args.counts.now c.args.tables.now 0 c.args.bytes.now c.args.at) (omega (arith, c.told-tables)) (omega (arith, c.loop-i.invariant.2)) c.loop-i.invariant.0
