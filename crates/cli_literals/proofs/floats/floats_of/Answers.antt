use Rattle.std.proofs.Common.{◌∙◌, ℕ, Option, ap, subst, arith}
use Rattle.cli_metadata.specs.Metadata.{coded_of}
use Rattle.cli_tables.specs.declared.members.ConstantRow.{ConstantRow}
use Rattle.cli_literals.specs.Marks.{marked, AreMarkedTo}
use Rattle.cli_literals.proofs.Marking.{one_more}
use Rattle.cli_literals.proofs.floats.floats_of.Goals as goal

pub loop-k-preserved : goal.loop-k-preserved
loop-k-preserved c =
    let test = c.loop-k-test.true in
    let rows = c.rows-k-end.ensures in
    one_more c.args.metadata.now c.loop-k.k c.row-row.result.element c.token.result c.requires.few (omega (arith, test, rows))
    (ap (λ (row : ConstantRow). row.element) c.row-row.ensures)
    (c.token.ensures ∙ ap (λ (row : ConstantRow). coded_of row.parent.kind row.parent.cell) c.row-row.ensures)
    c.loop-k.floats.items c.with_mark-floats.result.items
    (c.with_mark-floats.ensures ∙ ap (λ (o : Option ℕ). marked o c.loop-k.floats.items) c.float_place.ensures) c.loop-k.invariant

pub returns : goal.returns
returns c =
    let over = c.loop-k-test.false in
    let from = c.loop-k.auto.k-end in
    let rows = c.rows-k-end.ensures in
    subst (λ (n : ℕ). AreMarkedTo c.args.metadata.now n c.loop-k.floats.items) (omega (arith, over, from, rows)) c.loop-k.invariant
