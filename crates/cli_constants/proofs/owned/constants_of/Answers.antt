use Rattle.std.proofs.Common.{◌≡◌, ℕ, ◌+◌, ◌-◌, replicate, sym, ap, subst, ◌∙◌, arith}
use Rattle.cli_metadata.specs.Metadata.{coded_of}
use Rattle.cli_tables.specs.declared.members.ConstantRow.{ConstantRow}
use Rattle.cli_constants.proofs.Counted.{AreFrom, same_pair, none_from, counted, counted_all}
use Rattle.cli_constants.proofs.owned.constants_of.Goals as goal

pub loop-k-init : goal.loop-k-init
loop-k-init c =
    let items : c.in_ok-constants.constants.items ≡ replicate c.rows.result (0, 0) = c.in_ok-constants.ensures.items_if_clones_equal (λ y e. same_pair (0, 0) y e.0 e.1) in
    subst (λ (n : ℕ). AreFrom c.args.metadata.now n c.in_ok-constants.constants.items) (sym c.rows-k.ensures)
    (none_from c.args.metadata.now c.rows.result c.rows.ensures c.in_ok-constants.constants.items items)

pub loop-k-preserved : goal.loop-k-preserved
loop-k-preserved c =
    let some = c.loop-k-test.true in
    let below = c.loop-k.auto.k in
    let next : c.loop-k.k ≡ c.loop-k.k - 1 + 1 = omega (arith, some) in
    let rows = c.rows-k.ensures in
    let few = c.rows-k.type_inv in
    counted c.args.metadata.now (c.loop-k.k - 1) c.token.result c.loop-k.constants.items c.with_row-constants.result.items c.requires.few
    (omega (arith, rows, few)) (omega (arith, rows, below, next))
    (c.token.ensures ∙ ap (λ (row : ConstantRow). coded_of row.parent.kind row.parent.cell) c.row-row.ensures) c.with_row-constants.ensures
    (subst (λ (n : ℕ). AreFrom c.args.metadata.now n c.loop-k.constants.items) next c.loop-k.invariant)

pub returns : goal.returns
returns c = counted_all c.args.metadata.now c.loop-k.k c.loop-k.constants.items (omega (arith, c.loop-k-test.false)) c.loop-k.invariant
