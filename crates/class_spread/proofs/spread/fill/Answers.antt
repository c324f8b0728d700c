use Rattle.std.proofs.Common.{get_or, arith}
use Rattle.std.proofs.lemmas.Option.{slice_get-get_or}
use Rattle.class_spread.proofs.Table.{one_further, as_before, none_from, some_from}
use Rattle.class_spread.proofs.spread.fill.Goals as goal

pub returns-in_ok-spread : goal.returns-in_ok-spread
returns-in_ok-spread c =
    let within = slice_get-get_or c.args.table.now c.args.t c.index-table-t.result (omega (arith, c.requires.within, c.requires.so_far.long)) in
    one_further c.args.types.now c.args.table.now c.args.t c.in_ok-spread.spread (none_from c.args.table.now c.args.t (get_or c.args.table.now c.args.t c.index-table-t.result) within c.if-is_none.ensures) c.requires.so_far c.in_ok-spread.ensures

pub returns-else-is_none : goal.returns-else-is_none
returns-else-is_none c =
    let within = slice_get-get_or c.args.table.now c.args.t c.index-table-t.result (omega (arith, c.requires.within, c.requires.so_far.long)) in
    as_before c.args.types.now c.args.table.now c.args.t c.requires.so_far (some_from c.args.table.now c.args.t (get_or c.args.table.now c.args.t c.index-table-t.result) within c.if-is_none.ensures)
