use Rattle.std.proofs.Common.{◌+◌, ◌≤◌, arith}
use Rattle.cli_members.specs.Members.{IsMemberMethod}
use Rattle.cli_members.proofs.Those.{list_begun, one_row_more, list_ended, all_ended}
use Rattle.cli_members.proofs.Listed.{rows_of_methods, methods_range, ordered_methods, method_few}
use Rattle.cli_members.proofs.numbers.member_methods.Goals as goal

pub loop-row-init : goal.loop-row-init
loop-row-init c =
    let m = c.args.metadata.now in
    let from = c.loop-n.auto.n in
    let low : 2 ≤ c.loop-n.n + 1 = omega (arith, from) in
    list_begun (IsMemberMethod m) (c.loop-n.n + 1) c.list-list.result.start c.loop-n.found.items
    (λ r is. ((methods_range m c.args.lists.now (c.loop-n.n + 1) c.list-list.result.start c.list-list.result.end c.requires.same c.list-list.ensures low r).1 is).0)
    c.loop-n.invariant

pub loop-row-preserved : goal.loop-row-preserved
loop-row-preserved c =
    let m = c.args.metadata.now in
    let from = c.loop-n.auto.n in
    let low : 2 ≤ c.loop-n.n + 1 = omega (arith, from) in
    let here : IsMemberMethod m (c.loop-n.n + 1) c.loop-row.row =
    (methods_range m c.args.lists.now (c.loop-n.n + 1) c.list-list.result.start c.list-list.result.end c.requires.same c.list-list.ensures low c.loop-row.row).0
    (c.loop-row.auto.row, c.loop-row-test.true) in
    one_row_more (IsMemberMethod m) (c.loop-n.n + 1) c.loop-row.row c.loop-row.found.items c.push.new.self.items
    (ordered_methods m c.args.lists.now c.requires.same c.requires.lists) here c.in_ok-push.ensures.items c.loop-row.invariant

pub loop-n-preserved : goal.loop-n-preserved
loop-n-preserved c =
    let m = c.args.metadata.now in
    let from = c.loop-n.auto.n in
    let low : 2 ≤ c.loop-n.n + 1 = omega (arith, from) in
    let over = c.loop-row-test.false in
    list_ended (IsMemberMethod m) (c.loop-n.n + 1) c.loop-row.row c.loop-row.found.items
    (λ r is. let less = ((methods_range m c.args.lists.now (c.loop-n.n + 1) c.list-list.result.start c.list-list.result.end c.requires.same c.list-list.ensures low r).1 is).1 in omega (arith, less, over))
    c.loop-row.invariant

pub returns-clause-those : goal.returns-clause-those
returns-clause-those c =
    let m = c.args.metadata.now in
    let over = c.loop-n-test.false in
    let rows = c.rows-n-end.ensures in
    all_ended (IsMemberMethod m) (c.loop-n.n + 1) c.loop-n.found.items
    (λ t r is. let few = method_few m c.args.lists.now t r c.requires.same c.requires.each_row is in omega (arith, few, over, rows))
    c.loop-n.invariant

pub returns-clause-rows : goal.returns-clause-rows
returns-clause-rows c = rows_of_methods c.args.metadata.now c.args.lists.now c.loop-n.found.items c.requires.same c.requires.lists c.requires.each_row (returns-clause-those c)
