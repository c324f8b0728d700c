use Rattle.std.proofs.Common.{subst}
use Rattle.std.proofs.lemmas.Option.{get_or_from_slice_get}
use Rattle.class_keys.proofs.Items.{item_at}
use Rattle.cli_refs.specs.declared.key.Sought.{Sought}
use Rattle.cli_refs.specs.Keys.{IsKeySought}
use Rattle.cli_refs.proofs.Keyed.{none_behind, behind_more}
use Rattle.cli_refs.proofs.key.keys_of.Goals as goal

pub loop-q-init : goal.loop-q-init
loop-q-init c = none_behind c.args.members.now c.args.sought.now c.in_ok-keys.keys.items c.in_ok-keys.ensures

pub loop-q-preserved : goal.loop-q-preserved
loop-q-preserved c =
    let sought = c.args.sought.now in
    let s = item_at sought c.loop-q.q c.loop-q-test.true in
    let is = subst (λ (x : Sought). IsKeySought x c.key_sought.result) (get_or_from_slice_get sought c.loop-q.q s.0 _ s.1) c.key_sought.ensures in
    rw c.in_ok-push.ensures.items (behind_more c.args.members.now sought c.loop-q.keys.items c.loop-q.q s.0 c.key_sought.result c.loop-q.invariant s.1 is)
