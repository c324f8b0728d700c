use Rattle.std.proofs.Common.{arith, rules, refl}
use Rattle.std.proofs.lemmas.Result.{err_from_is_err_and}
use Rattle.dc_causes.specs.Step.{stop, go}
use Rattle.pe_image.proofs.Ranges.{range_at-within}
use Rattle.pe_image.proofs.Tables.{table_within}
use Rattle.pe_image.proofs.image.Image.of.Goals as goal

pub is_il_only-requires : goal.is_il_only-requires
is_il_only-requires c =
    let has = c.in-Some.ensures.found in
    let are = table_within c.args.bytes.now c.in_ok-table.table c.in_ok-table.ensures.table in
    let p = range_at-within c.args.bytes.now _ has.address 72 c.in-Some.cli are has.header in
    omega (arith, p.0, p.1)

pub invariant_of-result : goal.invariant_of-result
invariant_of-result c =
    let names = c.in-Some.ensures.found.names in
    let are = table_within c.args.bytes.now c.in_ok-table.table c.in_ok-table.ensures.table in
    record {
      short = c.requires;
      table = c.in_ok-table.ensures.table;
      metadata = (range_at-within c.args.bytes.now _ names.address names.size c.in-Some.metadata are names.range).0;
    }

pub returns-in_err-headers-clause-fault : goal.returns-in_err-headers-clause-fault
returns-in_err-headers-clause-fault c =
    let p = err_from_is_err_and c.from_residual.result c.from_residual.ensures.1 in
    rw (p.1, p.2) (stop _ c.in_err-headers.ensures.fault refl)

pub returns-in_err-table-clause-fault : goal.returns-in_err-table-clause-fault
returns-in_err-table-clause-fault c =
    let p = err_from_is_err_and c.from_residual-in_err-table.result c.from_residual-in_err-table.ensures.1 in
    rw (p.1, p.2) (go _ c.in_ok-headers.ensures.read (stop _ c.in_err-table.ensures.fault refl))

pub returns-in_default-clause-fault : goal.returns-in_default-clause-fault
returns-in_default-clause-fault c =
    go _ c.in_ok-headers.ensures.read (go _ c.in_ok-table.ensures.read (stop _ ((λ found. c.in_default.ensures.none found.0 found.1), search rules) refl))

pub returns-then-not-is_il_only-clause-fault : goal.returns-then-not-is_il_only-clause-fault
returns-then-not-is_il_only-clause-fault c =
    go _ c.in_ok-headers.ensures.read
    (go _ c.in_ok-table.ensures.read
    (go (c.in-Some.cli, c.in-Some.metadata) c.in-Some.ensures.found (stop _ (c.if-not-is_il_only.ensures.no, refl) refl)))

pub returns-clause-read : goal.returns-clause-read
returns-clause-read c =
    go _ c.in_ok-headers.ensures.read
    (go _ c.in_ok-table.ensures.read
    (go (c.in-Some.cli, c.in-Some.metadata) c.in-Some.ensures.found (go tt c.if-not-is_il_only.ensures.yes refl)))
