use Rattle.std.proofs.Common.{rules}
use Rattle.cli_roots.proofs.First.{of_implementation}
use Rattle.cli_roots.proofs.rows.by_implementation.Goals as goal

pub returns : goal.returns
returns c = of_implementation c.args.metadata.now c.args.r c.row-row.result _ c.row-row.ensures (search rules)
