use Rattle.std.proofs.Common.{◌∙◌, List, ℕ, ap}
use Rattle.class_spread.specs.Filled.{added}
use Rattle.class_spread.proofs.Table.{followed_on, link_lower}
use Rattle.class_spread.proofs.spread.follow.Goals as goal

pub loop-spread-smaller : goal.loop-spread-smaller
loop-spread-smaller c =
    link_lower c.args.types.now c.args.order.now c.args.table.now c.loop-spread.at c.in-Some-onward.above c.in-Some.spread.now c.requires.order c.requires.so_far.links c.in-Some.ensures.some c.in-Some-onward.is

pub loop-spread-preserved : goal.loop-spread-preserved
loop-spread-preserved c =
    followed_on c.args.table.now c.args.t c.loop-spread.at c.in-Some-onward.above c.args.seen.now.keys c.loop-spread.seen.keys c.add_all.new.seen.keys c.in-Some.spread.now
    c.loop-spread.invariant c.in-Some.ensures.some c.in-Some-onward.is
    (c.in_ok-add_all.ensures ∙ ap (λ (xs : List ℕ). added c.loop-spread.seen.keys xs) c.items.ensures)
