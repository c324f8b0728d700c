use Rattle.std.proofs.Common.{◌+◌, arith}
use Rattle.std.proofs.lemmas.Bool.{OnTrue_at, OnFalse_at}
use Rattle.cli_members.specs.Members.{IsMemberField}
use Rattle.cli_members.proofs.Those.{list_begun, one_row_more, one_row_passed, list_ended, all_ended}
use Rattle.cli_members.proofs.Listed.{rows_of_fields, fields_range, ordered_fields, field_few, field_row}
use Rattle.cli_members.proofs.numbers.member_fields.Goals as goal
use Rattle.cli_members.proofs.numbers.member_fields.Goals.{then-is_member+in_ok-push, else-is_member}

pub is_member-requires-clause-low : goal.is_member-requires-clause-low
is_member-requires-clause-low c =
    let m = c.args.metadata.now in
    (field_row m c.args.lists.now (c.loop-n.n + 1) c.loop-row.row c.requires.same c.requires.lists
    ((fields_range m c.args.lists.now (c.loop-n.n + 1) c.list-list.result.start c.list-list.result.end c.requires.same c.list-list.ensures c.loop-row.row).0 (c.loop-row.auto.row, c.loop-row-test.true))).0

pub is_member-requires-clause-high : goal.is_member-requires-clause-high
is_member-requires-clause-high c =
    let m = c.args.metadata.now in
    (field_row m c.args.lists.now (c.loop-n.n + 1) c.loop-row.row c.requires.same c.requires.lists
    ((fields_range m c.args.lists.now (c.loop-n.n + 1) c.list-list.result.start c.list-list.result.end c.requires.same c.list-list.ensures c.loop-row.row).0 (c.loop-row.auto.row, c.loop-row-test.true))).1

pub loop-row-init : goal.loop-row-init
loop-row-init c =
    let m = c.args.metadata.now in
    list_begun (IsMemberField m c.args.own.now) (c.loop-n.n + 1) c.list-list.result.start c.loop-n.found.items
    (λ r is. ((fields_range m c.args.lists.now (c.loop-n.n + 1) c.list-list.result.start c.list-list.result.end c.requires.same c.list-list.ensures r).1 is.listed).0)
    c.loop-n.invariant

pub loop-row-preserved : goal.loop-row-preserved
loop-row-preserved c =
    let m = c.args.metadata.now in
    let own = c.args.own.now in
    let from = c.loop-n.auto.n in
    let listed = (fields_range m c.args.lists.now (c.loop-n.n + 1) c.list-list.result.start c.list-list.result.end c.requires.same c.list-list.ensures c.loop-row.row).0 (c.loop-row.auto.row, c.loop-row-test.true) in
    elim c.if-is_member.branch [
      | then-is_member+in_ok-push w ↦
          rw w.found-is
          (one_row_more (IsMemberField m own) (c.loop-n.n + 1) c.loop-row.row c.loop-row.found.items w.push.new.self.items
          (ordered_fields m own c.args.lists.now c.requires.same c.requires.lists)
          (record { a_type = omega (arith, from); listed = listed; shared = OnTrue_at w.if-is_member.true c.is_member.ensures.yes })
          w.in_ok-push.ensures.items c.loop-row.invariant)
      | else-is_member w ↦
          rw w.found-is
          (one_row_passed (IsMemberField m own) (c.loop-n.n + 1) c.loop-row.row c.loop-row.found.items
          (λ is. OnFalse_at w.if-is_member.false c.is_member.ensures.no is.shared) c.loop-row.invariant)
    ]

pub loop-n-preserved : goal.loop-n-preserved
loop-n-preserved c =
    let m = c.args.metadata.now in
    let over = c.loop-row-test.false in
    list_ended (IsMemberField m c.args.own.now) (c.loop-n.n + 1) c.loop-row.row c.loop-row.found.items
    (λ r is. let less = ((fields_range m c.args.lists.now (c.loop-n.n + 1) c.list-list.result.start c.list-list.result.end c.requires.same c.list-list.ensures r).1 is.listed).1 in omega (arith, less, over))
    c.loop-row.invariant

pub returns-clause-those : goal.returns-clause-those
returns-clause-those c =
    let m = c.args.metadata.now in
    let over = c.loop-n-test.false in
    let rows = c.rows-n-end.ensures in
    all_ended (IsMemberField m c.args.own.now) (c.loop-n.n + 1) c.loop-n.found.items
    (λ t r is. let few = field_few m c.args.own.now c.args.lists.now t r c.requires.same c.requires.each_row is in omega (arith, few, over, rows))
    c.loop-n.invariant

pub returns-clause-rows : goal.returns-clause-rows
returns-clause-rows c = rows_of_fields c.args.metadata.now c.args.own.now c.args.lists.now c.loop-n.found.items c.requires.same c.requires.lists c.requires.each_row (returns-clause-those c)
