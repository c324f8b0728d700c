use Rattle.std.proofs.Common.{rules}
use Rattle.cli_named.proofs.Named.{of_member_ref}
use Rattle.cli_named.proofs.rows.by_member_ref.Goals as goal

pub returns : goal.returns
returns c = of_member_ref c.args.metadata.now c.args.r c.row-row.result _ c.in_ok-field.field.items c.in_ok-method.method.items c.requires.low c.requires.high c.requires.fits c.row-row.ensures c.in_ok-field.ensures c.in_ok-method.ensures (search rules)
