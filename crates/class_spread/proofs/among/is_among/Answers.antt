use Rattle.std.proofs.Common.{◌≡◌, true, false, rules}
use Rattle.class_spread.proofs.Firsts.{has}
use Rattle.class_spread.proofs.Table.{hunt_begins, hunt_found, hunt_on, hunt_lost, hunt_off, link_lower}
use Rattle.class_spread.proofs.among.is_among.Goals as goal

pub loop-spread-init : goal.loop-spread-init
loop-spread-init c = hunt_begins _ _ _ _ c.requires.spreads

pub loop-spread-smaller : goal.loop-spread-smaller
loop-spread-smaller c =
    link_lower c.args.types.now c.args.order.now c.args.spreads.now c.loop-spread.at _ c.in-Some.spread.now c.requires.order c.requires.spreads.links c.in-Some.ensures.some c.in-Some-onward.is

pub loop-spread-preserved : goal.loop-spread-preserved
loop-spread-preserved c =
    let apart : has c.args.interface.0 c.in-Some.spread.now.own ≡ false = search rules in
    hunt_on c.args.types.now c.args.spreads.now c.args.t.0 c.args.interface.0 c.loop-spread.at c.in-Some-onward.above c.in-Some.spread.now c.requires.spreads c.loop-spread.invariant c.in-Some.ensures.some apart c.in-Some-onward.is

pub returns-then-is_one_of-clause-yes : goal.returns-then-is_one_of-clause-yes
returns-then-is_one_of-clause-yes c = λ _.
    let there : has c.args.interface.0 c.in-Some.spread.now.own ≡ true = search rules in
    hunt_found c.args.types.now c.args.spreads.now c.args.t.0 c.args.interface.0 c.loop-spread.at c.in-Some.spread.now c.requires.spreads c.loop-spread.invariant c.in-Some.ensures.some there

pub returns-in_default-onward-clause-no : goal.returns-in_default-onward-clause-no
returns-in_default-onward-clause-no c = λ n.
    let apart : has c.args.interface.0 c.in-Some.spread.now.own ≡ false = search rules in
    absurd (hunt_lost c.args.types.now c.args.spreads.now c.args.t.0 c.args.interface.0 c.loop-spread.at c.in-Some.spread.now c.requires.spreads c.loop-spread.invariant c.in-Some.ensures.some apart c.in_default-onward.is n)

pub returns-clause-no : goal.returns-clause-no
returns-clause-no c = λ n. absurd (hunt_off c.args.types.now c.args.spreads.now c.args.t.0 c.args.interface.0 c.loop-spread.at c.requires.spreads c.loop-spread.invariant c.in_default.ensures.none n)
