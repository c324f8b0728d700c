use Rattle.std.proofs.Common.{◌≡◌, ◌≤◌, ℕ, ◌+◌, ◌-◌, ap, subst, arith, ◌∙◌}
use Rattle.cli_metadata.specs.declared.tables.Table.TheVariants as tables
use Rattle.cli_metadata.specs.Metadata.{rows_of}
use Rattle.cli_tables.specs.declared.types.NestedClassRow.{NestedClassRow}
use Rattle.cli_names.specs.Outers.{nesting, IsPut, AreOutersBehind}
use Rattle.cli_names.proofs.Nested.{one_more, all_outers}
use Rattle.cli_names.proofs.outers.outers_of.Goals as goal

pub loop-k-preserved : goal.loop-k-preserved
loop-k-preserved c =
    let m = c.args.metadata.now in
    let some = c.loop-k-test.true in
    let within = c.loop-k.auto.k in
    let next : c.loop-k.k - 1 + 1 ≡ c.loop-k.k = omega (arith, some) in
    let row : c.row-row.result ≡ nesting m c.loop-k.k = c.row-row.ensures ∙ ap (λ (r : ℕ). nesting m r) next in
    let high : c.loop-k.k ≤ rows_of m tables.NestedClass = omega (arith, within, c.rows-k.ensures) in
    one_more m c.loop-k.k c.loop-k.outers.items c.with_row-outers.result.items (omega (arith, some)) high c.loop-k.invariant
    (subst (λ (r : NestedClassRow). IsPut r c.loop-k.outers.items c.with_row-outers.result.items) row c.with_row-outers.ensures)

pub returns : goal.returns
returns c =
    let over = c.loop-k-test.false in
    let zero : c.loop-k.k ≡ 0 = omega (arith, over) in
    all_outers c.args.metadata.now c.loop-k.outers.items (subst (λ (k : ℕ). AreOutersBehind c.args.metadata.now k c.loop-k.outers.items) zero c.loop-k.invariant)
