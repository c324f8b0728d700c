use Rattle.std.proofs.Common.{get_or, arith}
use Rattle.std.proofs.lemmas.Option.{slice_get-get_or}
use Rattle.class_keys.proofs.Items.{read_item}
use Rattle.cli_refs.proofs.FirstOf.{placed_more}
use Rattle.cli_refs.proofs.pick.places_of.Goals as goal

pub loop-m-preserved : goal.loop-m-preserved
loop-m-preserved c =
    let members = c.args.members.now in
    let signs = c.args.signs.now in
    let m = c.loop-m.m in
    let at = read_item members m c.index-members-m.result c.loop-m-test.true c.index-members-m.is in
    let sign = slice_get-get_or signs m 0 (let lt = c.loop-m-test.true in let short = c.requires in omega (arith, lt, short)) in
    rw c.in_ok-push.ensures.items (placed_more members signs c.loop-m.places.items m (get_or signs m 0) c.index-members-m.result c.place_of.result c.loop-m.invariant at sign c.place_of.ensures)
