use Rattle.cli_member_rows.specs.Methods.{IsMethodRow}
use Rattle.cli_member_rows.proofs.Pushed.{AreSoFar}
use Rattle.cli_member_rows.proofs.methods.method_rows.Given as goal

abbrev pub invariant-loop-owned : goal.invariant-loop-owned
invariant-loop-owned l = AreSoFar (λ o row. IsMethodRow l.metadata l.types l.own o.owner o.row row) l.methods l.owned-index l.rows.items
