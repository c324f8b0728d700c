use Rattle.std.proofs.Common.{◌≡◌, ◌∙◌, ◌<◌, ◌++◌, ℕ, List, ap, subst, arith}
use Rattle.dc_base.specs.declared.names.Token.{Token}
use Rattle.cli_metadata.specs.declared.tables.Table.{Table}
use Rattle.cli_metadata.specs.Metadata.{rows_of}
use Rattle.cli_roots.specs.Own.{table_of, AreFirstRows}
use Rattle.cli_roots.proofs.First.{none_yet, one_more}
use Rattle.cli_roots.proofs.own.with_rows.Goals as goal

pub loop-k-init : goal.loop-k-init
loop-k-init c = none_yet c.args.metadata.now c.args.table c.args.before.items

pub loop-k-preserved : goal.loop-k-preserved
loop-k-preserved c =
    let count = c.rows-k-end.ensures ∙ ap (λ (t : Table). rows_of c.args.metadata.now t) c.table.ensures in
    let test = c.loop-k-test.true in
    let within : c.loop-k.k < rows_of c.args.metadata.now (table_of c.args.table) = omega (arith, test, count) in
    one_more c.one_list.ensures.tokens c.args.metadata.now c.args.table c.loop-k.k c.args.before.items c.loop-k.found.items c.in_ok-named.named.items _ within c.in_ok-named.ensures
    (c.in_ok-extend_from_slice.ensures.items ∙ ap (λ (xs : List Token). c.loop-k.found.items ++ xs) c.as_slice.ensures.value) c.loop-k.invariant

pub returns : goal.returns
returns c =
    let count = c.rows-k-end.ensures ∙ ap (λ (t : Table). rows_of c.args.metadata.now t) c.table.ensures in
    let test = c.loop-k-test.false in
    let end = c.loop-k.auto.k-end in
    let all : c.loop-k.k ≡ rows_of c.args.metadata.now (table_of c.args.table) = omega (arith, test, end, count) in
    subst (λ (n : ℕ). AreFirstRows c.args.metadata.now c.args.table n c.args.before.items c.loop-k.found.items) all c.loop-k.invariant
