use Rattle.std.proofs.Common.{[]}
use Rattle.std.proofs.lemmas.Option.{slice_get-get_or}
use Rattle.class_rows.specs.Lookups.{none}
use Rattle.class_spread.proofs.Out.{out_next}
use Rattle.class_spread.proofs.spread.gathered.Goals as goal

pub loop-interface-init : goal.loop-interface-init
loop-interface-init c = ([], none, c.new-seen.ensures.empty)

pub loop-interface-preserved : goal.loop-interface-preserved
loop-interface-preserved c =
    let right = c.requires.so_far.right _ (c.requires.behind c.loop-interface.interface-index _ (slice_get-get_or c.args.named.now c.loop-interface.interface-index (record { 0 = 0 }) c.loop-interface-test.true)) in
    out_next c.args.types.now c.args.named.now c.loop-interface.interface-index (record { 0 = 0 }) c.loop-interface.seen.keys c.insert.new.self.keys c.follow.new.seen.keys right.named right.list
    c.loop-interface-test.true c.loop-interface.invariant right.are_named right.out c.in_ok-insert.ensures.keys (c.in_ok-follow.ensures right.list right.told)
