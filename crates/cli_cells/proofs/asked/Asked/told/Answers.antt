use Rattle.std.proofs.Common.{refl}
use Rattle.cli_cells.specs.First.{by_number}
use Rattle.cli_cells.proofs.Found.{found}
use Rattle.cli_cells.proofs.asked.Asked.told.Goals as goal

pub unreachable-requires : goal.unreachable-requires
unreachable-requires c = (found c.args.self.now by_number (c.args.table, c.args.k) c.requires).1 c.in-None.ensures

pub returns : goal.returns
returns c = record {
  table = c.args.table;
  k = c.args.k;
  row = c.requires;
  cell = c.in-Some.ensures;
  token = rw c.token.ensures (rw c.row_at.ensures.is refl);
}
