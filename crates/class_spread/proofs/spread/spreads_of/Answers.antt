use Rattle.std.proofs.Common.{◌≡◌, ℕ, List, Option, Some, length, get_or, inr, subst, sym, arith, rules}
use Rattle.std.proofs.lemmas.Option.{slice_get-get_or, slice_get_within}
use Rattle.std.specs.List.{slice_get}
use Rattle.class_spread.specs.declared.spread.Spread.{Spread}
use Rattle.class_spread.specs.Filled.{IsFilled, IsSoFar, IsFurther}
use Rattle.class_spread.proofs.Table.{all_told, written_back, so_far_more}
use Rattle.class_spread.proofs.spread.spreads_of.Goals as goal

pub fill-requires-clause-behind : goal.fill-requires-clause-behind
fill-requires-clause-behind c = λ i named.
    let t : ℕ = get_or c.args.order.now c.loop-t.t-index 0 in
    let at : slice_get c.args.order.now c.loop-t.t-index ≡ Some t = slice_get-get_or c.args.order.now c.loop-t.t-index 0 c.loop-t-test.true in
    let behind = c.requires.order.above c.loop-t.t-index t i at (inr named) (c.requires.there t i named) in
    subst (λ (xs : List (Option Spread)). IsFilled xs i) (sym c.as_mut_slice.ensures.value) (c.loop-t.invariant.1 behind.0 i behind.1 behind.2)

pub loop-t-preserved : goal.loop-t-preserved
loop-t-preserved c =
    let value = c.as_mut_slice.ensures.value in
    let further : IsFurther c.args.types.now c.loop-t.table.items c.fill.new.table (get_or c.args.order.now c.loop-t.t-index 0) = subst (λ (xs : List (Option Spread)). IsFurther c.args.types.now xs c.fill.new.table (get_or c.args.order.now c.loop-t.t-index 0)) value c.in_ok-fill.ensures in
    let old_long : length c.loop-t.table.items ≡ c.loop-t.table.len = search rules in
    let new_long : length c.fill.new.table ≡ c.loop-t.table.len = omega (arith, further.so_far.long, c.loop-t.invariant.0.long, old_long) in
    let back = written_back c.fill.new.table c.loop-t.table.items c.loop-t.table.len new_long old_long in (
      subst (λ (xs : List (Option Spread)). IsSoFar c.args.types.now xs) (sym back) further.so_far,
      λ k t lt at. subst (λ (xs : List (Option Spread)). IsFilled xs t) (sym back) (so_far_more c.args.types.now c.args.order.now c.loop-t.table.items c.fill.new.table c.loop-t.t-index 0 c.loop-t-test.true c.loop-t.invariant.1 further k t lt at),
    )

pub returns : goal.returns
returns c = all_told c.args.types.now c.loop-t.table.items c.loop-t.invariant.0
    (λ t lt. let at = c.requires.order.all t lt in c.loop-t.invariant.1 at.0 t (omega (arith, c.loop-t-test.false, slice_get_within c.args.order.now at.0 t at.1)) at.1)
