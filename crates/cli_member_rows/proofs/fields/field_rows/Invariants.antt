use Rattle.cli_member_rows.specs.Fields.{IsFieldRow}
use Rattle.cli_member_rows.proofs.Pushed.{AreSoFar}
use Rattle.cli_member_rows.proofs.fields.field_rows.Given as goal

abbrev pub invariant-loop-owned : goal.invariant-loop-owned
invariant-loop-owned l = AreSoFar (λ o row. IsFieldRow l.metadata l.types o.owner o.row row) l.fields l.owned-index l.rows.items
