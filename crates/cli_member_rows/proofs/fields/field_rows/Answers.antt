use Rattle.std.specs.List.{slice_index_or}
use Rattle.cli_members.specs.declared.numbers.Owned.{Owned}
use Rattle.class_rows.specs.declared.row.MemberRow.{MemberRow}
use Rattle.cli_member_rows.specs.Fields.{IsFieldRow}
use Rattle.cli_member_rows.proofs.Constants.{item}
use Rattle.cli_member_rows.proofs.Pushed.{one_more}
use Rattle.cli_member_rows.proofs.fields.field_rows.Goals as goal

pub loop-owned-preserved : goal.loop-owned-preserved
loop-owned-preserved c =
    let nothing : Owned = record { owner = 0; row = 0 } in
    one_more (λ (o : Owned) (row : MemberRow). IsFieldRow c.args.metadata.now c.args.types.now o.owner o.row row) c.args.fields.now c.loop-owned.owned-index
    (slice_index_or c.args.fields.now c.loop-owned.owned-index nothing) c.in_ok-field_row.field-0 c.loop-owned.rows.items c.push.new.self.items
    (item c.args.fields.now c.loop-owned.owned-index nothing c.loop-owned-test.true) c.in_ok-field_row.ensures c.in_ok-push.ensures.items c.loop-owned.invariant
