use Rattle.class_open.proofs.Put.{none_stacked}
use Rattle.class_open.proofs.open.none_open.Goals as goal

pub returns-clause-stacked : goal.returns-clause-stacked
returns-clause-stacked c =
    none_stacked c.args.signs.now c.in_ok-tops.tops.items c.in_ok-below.below.items c.new.result c.requires c.in_ok-tops.ensures c.in_ok-below.ensures c.new.ensures
