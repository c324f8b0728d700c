use Rattle.std.proofs.Common.{rules, ltb}
use Rattle.std.proofs.lemmas.List.Sorted.{IsPartitionPoint-from_clause}
use Rattle.cli_members.specs.declared.numbers.Owned.{Owned}
use Rattle.cli_members.proofs.Places.{parted, over_end, other_row}
use Rattle.cli_members.proofs.named.place_of.Goals as goal
use Rattle.cli_members.proofs.named.place_of.Goals.{else-place-owned-via-then-place-owned+else-owned-place, else-place-owned-via-else-place-owned}

pub returns-else-place-owned-clause-none : goal.returns-else-place-owned-clause-none
returns-else-place-owned-clause-none c = λ place is.
    let point = IsPartitionPoint-from_clause (λ (o : Owned). ltb o.row c.args.row) _ _ c.partition_point-place.ensures.partitioned (parted c.args.owned.now c.args.row c.requires) (λ a r q k. search rules) in
    elim c.else-place-owned.branch [
      | else-place-owned-via-then-place-owned+else-owned-place w ↦ other_row c.args.owned.now c.args.row c.partition_point-place.result place (record { owner = 0; row = 0 }) c.requires point w.if-place-owned.true w.if-owned-place.false is
      | else-place-owned-via-else-place-owned w ↦ over_end c.args.owned.now c.args.row c.partition_point-place.result place c.requires point w.if-place-owned.false is
    ]
