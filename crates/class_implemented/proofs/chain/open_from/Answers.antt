use Rattle.std.proofs.Common.{List, ℕ, refl, subst}
use Rattle.class_keys.specs.Least.{IsLeastOf}
use Rattle.class_spread.proofs.Table.{link_lower}
use Rattle.class_implemented.specs.Open.{IsOpenAmong}
use Rattle.class_implemented.proofs.Open.{links_begin, links_on, links_end, links_passed, links_off}
use Rattle.class_implemented.proofs.chain.open_from.Goals as goal

pub loop-spread-init : goal.loop-spread-init
loop-spread-init c = links_begin c.args.known.now c.args.c.0 c.args.d.0 c.requires.within

pub loop-spread-smaller : goal.loop-spread-smaller
loop-spread-smaller c =
    link_lower c.args.known.now.types.now c.args.known.now.order.now c.args.known.now.spreads.now c.loop-spread.at c.in-Some-onward.onward c.in-Some.spread.now c.requires.known.order c.requires.known.spreads.links c.in-Some.ensures.some c.in-Some-onward.is

pub loop-spread-preserved : goal.loop-spread-preserved
loop-spread-preserved c =
    let own = subst (λ (xs : List ℕ). IsLeastOf (IsOpenAmong c.args.known.now c.args.c.0 xs) c.open_among.result) c.items.ensures c.open_among.ensures in
    rw c.lesser-least.ensures
    (links_on c.args.known.now c.args.c.0 c.args.d.0 c.loop-spread.at c.in-Some-onward.onward c.in-Some.spread.now c.loop-spread.least c.open_among.result c.requires.known c.loop-spread.invariant c.in-Some.ensures.some c.in-Some-onward.is own)

pub returns-then-is_passed : goal.returns-then-is_passed
returns-then-is_passed c = links_passed c.args.known.now c.args.c.0 c.args.d.0 c.loop-spread.at c.loop-spread.least c.loop-spread.invariant (c.if-is_passed.ensures refl)

pub returns-in_default-onward : goal.returns-in_default-onward
returns-in_default-onward c =
    let own = subst (λ (xs : List ℕ). IsLeastOf (IsOpenAmong c.args.known.now c.args.c.0 xs) c.open_among.result) c.items.ensures c.open_among.ensures in
    rw c.lesser-least.ensures
    (links_end c.args.known.now c.args.c.0 c.args.d.0 c.loop-spread.at c.in-Some.spread.now c.loop-spread.least c.open_among.result c.requires.known c.loop-spread.invariant c.in-Some.ensures.some c.in_default-onward.is own)

pub returns : goal.returns
returns c = absurd (links_off c.args.known.now c.args.c.0 c.args.d.0 c.loop-spread.at c.loop-spread.least c.requires.known c.loop-spread.invariant c.in_default.ensures.none)
