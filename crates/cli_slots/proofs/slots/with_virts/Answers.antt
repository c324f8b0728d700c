use Rattle.std.proofs.Common.{◌≡◌, ◌<◌, ◌∙◌, List, length, take, set, get_or, sym, ap, arith}
use Rattle.class_rows.specs.declared.row.MemberRow.{MemberRow}
use Rattle.class_rows.specs.declared.row.Virt.TheVariants.{Plain}
use Rattle.cli_slots.specs.Settled.{with_virt}
use Rattle.cli_slots.specs.Known.{with_virts}
use Rattle.cli_slots.proofs.Rows.{with_none, more_with, all_with}
use Rattle.cli_slots.proofs.slots.with_virts.Goals as goal

pub loop-m-init : goal.loop-m-init
loop-m-init c = sym (with_none c.args.members.items)

pub loop-m-preserved : goal.loop-m-preserved
loop-m-preserved c =
    let rows = c.args.members.items in
    let virts = c.args.virts.now in
    let m = c.loop-m.m in
    let x = c.index_mut.result.now in
    let before : c.loop-m.members.items ≡ with_virts rows (take m virts) = c.loop-m.invariant in
    let lt : m < length rows = (let test = c.loop-m-test.true in let end = c.len-m-end.ensures in omega (arith, test, end)) in
    let less : m < length virts = (let long = c.requires in omega (arith, lt, long)) in
    let read : x ≡ get_or (with_virts rows (take m virts)) m x = c.index_mut.ensures.value ∙ ap (λ (rs : List MemberRow). get_or rs m x) before in
    ap (λ (rs : List MemberRow). set rs m (with_virt (get_or virts m Plain) x)) before ∙ more_with rows virts m Plain x lt less read

pub returns : goal.returns
returns c =
    let rows = c.args.members.items in
    let virts = c.args.virts.now in
    let over = c.loop-m-test.false in
    let end = c.len-m-end.ensures in
    let long = c.requires in
    c.loop-m.invariant ∙ all_with rows virts c.loop-m.m (omega (arith, over, end, long))
