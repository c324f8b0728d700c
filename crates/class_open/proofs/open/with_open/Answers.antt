use Rattle.std.proofs.Common.{get_or}
use Rattle.std.proofs.lemmas.Option.{slice_get-get_or}
use Rattle.class_keys.proofs.Items.{read_item}
use Rattle.class_open.proofs.Put.{pushed}
use Rattle.class_open.proofs.open.with_open.Goals as goal

pub returns-clause-stacked : goal.returns-clause-stacked
returns-clause-stacked c =
    let signs = c.args.signs.now in
    let s = get_or signs c.args.m 0 in
    let sign = slice_get-get_or signs c.args.m 0 c.requires.within in
    let at = read_item c.args.state.tops.items s c.index.result.now (c.requires.stacked.small c.args.m s sign) c.index.ensures in
    let more = pushed signs c.args.state.tops.items c.args.state.below.items c.args.state.trail c.args.m s c.index.result.now c.requires.stacked sign at c.requires.fresh in
    rw c.in_ok-push.ensures.ok more
