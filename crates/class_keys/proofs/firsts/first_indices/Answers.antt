use Rattle.class_keys.proofs.Items.{read_item}
use Rattle.class_keys.proofs.Noted.{noted_more}
use Rattle.class_keys.proofs.firsts.first_indices.Goals as goal

pub loop-index-preserved : goal.loop-index-preserved
loop-index-preserved g c =
    let e = c.in_ok-place.ensures in
    let stands = read_item c.args.keys.now c.loop-index.index c.index-keys-index.result c.loop-index-test.true c.index-keys-index.is in
    let more = noted_more g.K.PartialEq.eq g.met.K.Eq.laws c.args.keys.now c.loop-index.seen.keys c.insert_full.new.self.keys c.loop-index.places.items c.in_ok-places.places.items c.loop-index.firsts.items c.loop-index.index c.in_ok-place.place c.index.result.now c.index-keys-index.result e.stored.0 c.in_ok-place.is_new stands e.added e.keys c.in_ok-places.ensures e.stored.1 e.stored.2 c.index.ensures c.loop-index.invariant in
    rw c.in_ok-push.ensures.items more
