use Rattle.std.proofs.Common.{◌≡◌, ◌≤◌, ℕ, ◌+◌, ◌-◌, ap, subst, arith, ◌∙◌, Option}
use Rattle.cli_metadata.specs.declared.tables.Table.TheVariants as tables
use Rattle.cli_metadata.specs.Metadata.{rows_of}
use Rattle.cli_tables.specs.declared.properties.MethodSemanticsRow.{MethodSemanticsRow}
use Rattle.cli_accessors.specs.Accessors.{semantics_at, property_of}
use Rattle.cli_accessors.specs.Put.{IsPut, AreBehind}
use Rattle.cli_accessors.proofs.Written.{one_more, all_accessors}
use Rattle.cli_accessors.proofs.parts.accessors_of.Goals as goal

pub loop-k-preserved : goal.loop-k-preserved
loop-k-preserved c =
    let m = c.args.metadata.now in
    let some = c.loop-k-test.true in
    let within = c.loop-k.auto.k in
    let next : c.loop-k.k - 1 + 1 ≡ c.loop-k.k = omega (arith, some) in
    let row : c.row-row.result ≡ semantics_at m c.loop-k.k = c.row-row.ensures ∙ ap (λ (r : ℕ). semantics_at m r) next in
    let high : c.loop-k.k ≤ rows_of m tables.MethodSemantics = omega (arith, within, c.rows-k.ensures) in
    let of : c.property_of.result ≡ property_of c.args.part c.row-row.result = c.property_of.ensures in
    let put = subst (λ (p : Option ℕ). IsPut p c.row-row.result.method c.loop-k.found.items c.with_accessor-found.result.items) of c.with_accessor-found.ensures in
    one_more m c.args.part c.loop-k.k c.loop-k.found.items c.with_accessor-found.result.items (omega (arith, some)) high c.loop-k.invariant
    (subst (λ (r : MethodSemanticsRow). IsPut (property_of c.args.part r) r.method c.loop-k.found.items c.with_accessor-found.result.items) row put)

pub returns : goal.returns
returns c =
    let over = c.loop-k-test.false in
    let zero : c.loop-k.k ≡ 0 = omega (arith, over) in
    all_accessors c.args.metadata.now c.args.part c.loop-k.found.items (subst (λ (k : ℕ). AreBehind c.args.metadata.now c.args.part k c.loop-k.found.items) zero c.loop-k.invariant)
