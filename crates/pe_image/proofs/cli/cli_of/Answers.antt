use Rattle.std.proofs.Common.{arith, rules, sym}
use Rattle.pe_image.specs.Number.{IsU32}
use Rattle.pe_image.specs.Cli.{directory_place}
use Rattle.pe_image.proofs.Ranges.{range_at-within}
use Rattle.pe_image.proofs.Tables.{table_within}
use Rattle.pe_image.proofs.Unique.{if_none, no_names}
use Rattle.pe_image.proofs.cli.cli_of.Goals as goal

pub metadata_of-requires-clause-within : goal.metadata_of-requires-clause-within
metadata_of-requires-clause-within c =
    let are = table_within c.args.file.now c.args.table c.requires in
    let p = range_at-within c.args.file.now _ c.in_ok-address.address 72 c.in_ok-cli.cli are (sym c.in_ok-cli.ensures) in
    omega (arith, p.0, p.1)

pub returns-in_err-metadata-clause-none : goal.returns-in_err-metadata-clause-none
returns-in_err-metadata-clause-none c =
    let directory : IsU32 c.args.file.now (directory_place c.args.headers) c.in_ok-address.address = search rules in
    if_none c.from_residual-in_err-metadata.result _
    (no_names c.args.file.now c.args.headers _ c.in_ok-address.address c.in_ok-cli.cli directory (sym c.in_ok-cli.ensures) c.in_err-metadata.ensures.none)
