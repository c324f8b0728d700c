use Rattle.std.proofs.Common.{get_or, arith}
use Rattle.std.proofs.lemmas.Option.{slice_get-get_or}
use Rattle.class_keys.proofs.Items.{read_item}
use Rattle.cli_refs.proofs.FirstOf.{picked_more}
use Rattle.cli_refs.proofs.pick.picked.Goals as goal

pub loop-m-preserved : goal.loop-m-preserved
loop-m-preserved c =
    let members = c.args.members.now in
    let firsts = c.args.firsts.now in
    let m = c.loop-m.m in
    let at = read_item members m c.index-members-m.result c.loop-m-test.true c.index-members-m.is in
    let first = slice_get-get_or firsts m 0 (let lt = c.loop-m-test.true in let long = c.requires in omega (arith, lt, long)) in
    rw c.in_ok-push.ensures.items (picked_more c.args.count members firsts c.loop-m.picks.items m (get_or firsts m 0) c.index-members-m.result c.is_picked.result c.loop-m.invariant at first c.is_picked.ensures.yes c.is_picked.ensures.no)
