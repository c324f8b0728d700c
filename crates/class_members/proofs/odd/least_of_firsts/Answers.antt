use Rattle.std.proofs.Common.{◌≡◌, Some, get_or, refl, arith}
use Rattle.std.specs.List.{slice_get}
use Rattle.std.proofs.lemmas.Bool.{false≢true}
use Rattle.std.proofs.lemmas.Option.{slice_get-get_or}
use Rattle.class_members.proofs.Odds.{clash_more, no_clash_more, all_clashes}
use Rattle.class_members.proofs.odd.least_of_firsts.Goals.{then-is_odd, else-is_odd}
use Rattle.class_members.proofs.odd.least_of_firsts.Goals as goal

pub loop-m-preserved : goal.loop-m-preserved
loop-m-preserved c =
    let at : slice_get c.args.firsts.now c.loop-m.m ≡ Some (get_or c.args.firsts.now c.loop-m.m 0) = slice_get-get_or c.args.firsts.now c.loop-m.m 0 (omega (arith, c.loop-m-test.true, c.requires.firsts.long)) in
    elim c.if-is_odd.branch [
      | then-is_odd w ↦ rw w.least-is (rw w.lesser-least.ensures (clash_more c.args.types.now c.args.members.now c.args.nameless.now c.args.firsts.now c.loop-m.m _ c.loop-m.least c.requires.firsts at (w.if-is_odd.ensures.yes refl) c.loop-m.invariant))
      | else-is_odd w ↦ rw w.least-is (no_clash_more c.args.types.now c.args.members.now c.args.nameless.now c.args.firsts.now c.loop-m.m _ c.loop-m.least c.requires.firsts at (λ odd. false≢true (w.if-is_odd.ensures.no odd)) c.loop-m.invariant)
    ]

pub returns : goal.returns
returns c = all_clashes c.args.types.now c.args.members.now c.args.nameless.now c.loop-m.m c.loop-m.least c.loop-m-test.false c.loop-m.invariant
