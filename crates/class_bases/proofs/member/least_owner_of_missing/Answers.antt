use Rattle.class_keys.proofs.Items.{read_item}
use Rattle.class_bases.proofs.Members.{member_more, members_fit}
use Rattle.class_bases.proofs.member.least_owner_of_missing.Goals as goal

pub loop-row-preserved : goal.loop-row-preserved
loop-row-preserved c =
    let stands = read_item c.args.members.now c.loop-row.row-index c.row-item.result c.loop-row-test.true c.row-item.is in
    rw c.lesser-least.ensures (member_more c.args.types.now c.args.members.now c.loop-row.row-index c.row-item.result c.loop-row.least c.broken_owner.result stands c.broken_owner.ensures c.loop-row.invariant)

pub returns : goal.returns
returns c = members_fit c.args.types.now c.args.members.now c.loop-row.row-index c.loop-row.least c.loop-row-test.false c.loop-row.invariant
