use Rattle.class_keys.proofs.Items.{read_item}
use Rattle.cli_refs.proofs.Keyed.{keyed_more}
use Rattle.cli_refs.proofs.key.member_keys.Goals as goal

pub loop-m-preserved : goal.loop-m-preserved
loop-m-preserved c =
    let at = read_item c.args.members.now c.loop-m.m c.index-members-m.result c.loop-m-test.true c.index-members-m.is in
    rw c.in_ok-push.ensures.items (keyed_more c.args.members.now c.loop-m.keys.items c.loop-m.m c.index-members-m.result c.key_of.result c.loop-m.invariant at c.key_of.ensures)
