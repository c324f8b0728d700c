use Rattle.std.proofs.Common.{[], inl, inr, sym, ◌∙◌, arith}
use Rattle.cli_metadata.specs.Layout.{are_tables}
use Rattle.cli_metadata.proofs.Places.{bits-go}
use Rattle.cli_metadata.proofs.layout.are_tables.Goals as goal
use Rattle.cli_metadata.proofs.layout.are_tables.Goals.{else-bits-eq1-via-then-bits-eq1+else-not-is_table, else-bits-eq1-via-else-bits-eq1}

pub loop-columns-preserved : goal.loop-columns-preserved
loop-columns-preserved c =
    elim c.else-bits-eq1.branch [
      | else-bits-eq1-via-then-bits-eq1+else-not-is_table w ↦ bits-go c.args.valid c.loop-columns.bits c.args.tables.now c.loop-columns.columns-index [] (are_tables c.args.valid c.args.tables.now) (omega (arith, c.told-tables)) (inl (w.if-bits-eq1.true, sym w.is_table.ensures ∙ w.if-not-is_table.false)) c.loop-columns.invariant
      | else-bits-eq1-via-else-bits-eq1 w ↦ bits-go c.args.valid c.loop-columns.bits c.args.tables.now c.loop-columns.columns-index [] (are_tables c.args.valid c.args.tables.now) (omega (arith, c.told-tables)) (inr w.if-bits-eq1.false) c.loop-columns.invariant
    ]
