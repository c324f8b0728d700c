use Rattle.cli_lists.proofs.Columns.{list_exact}
use Rattle.cli_lists.proofs.column.ListColumn.list.Goals as goal

pub returns : goal.returns
returns c = rw c.items.ensures (list_exact c.args.self.now c.args.k c.end.result c.requires.column c.requires.low c.requires.high c.end.ensures.next c.end.ensures.last)
