use Rattle.std.proofs.Common.{ℕ, Option, List, sym, subst}
use Rattle.class_spread.proofs.Table.{link_lower}
use Rattle.class_implemented.specs.Open.{ArePassed, IsMarkedWith}
use Rattle.class_implemented.proofs.Passing.{passing_marked, passing_on}
use Rattle.class_implemented.proofs.passed.passed_by.Goals as goal

pub next_of-next-requires : goal.next_of-next-requires
next_of-next-requires c = subst (λ (marks : List (Option ℕ)). ArePassed c.args.known.now marks) (sym c.as_slice.ensures.value) c.loop-spread.invariant.are

pub returns-in_default-next : goal.returns-in_default-next
returns-in_default-next c =
    let marked = subst (λ (own : List ℕ). IsMarkedWith c.loop-spread.passed.items c.with_all-passed.result.items own c.args.c.0) c.items.ensures c.with_all-passed.ensures in
    passing_marked c.args.known.now c.args.c.0 c.loop-spread.at c.loop-spread.passed.items c.with_all-passed.result.items c.in-Some.spread.now c.requires.known c.requires.none c.loop-spread.invariant c.in-Some.ensures.some marked

pub loop-spread-smaller : goal.loop-spread-smaller
loop-spread-smaller c =
    link_lower c.args.known.now.types.now c.args.known.now.order.now c.args.known.now.spreads.now c.loop-spread.at c.in-Some-next.onward c.in-Some.spread.now c.requires.known.order c.requires.known.spreads.links c.in-Some.ensures.some c.in-Some-next.ensures

pub loop-spread-preserved : goal.loop-spread-preserved
loop-spread-preserved c =
    let marked = subst (λ (own : List ℕ). IsMarkedWith c.loop-spread.passed.items c.with_all-passed.result.items own c.args.c.0) c.items.ensures c.with_all-passed.ensures in
    passing_on c.args.known.now c.args.c.0 c.loop-spread.at c.in-Some-next.onward c.loop-spread.passed.items c.with_all-passed.result.items c.in-Some.spread.now c.requires.known c.requires.none c.loop-spread.invariant c.in-Some.ensures.some c.in-Some-next.ensures marked
