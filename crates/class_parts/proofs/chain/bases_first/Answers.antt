use Rattle.std.proofs.lemmas.List.{length-map}
use Rattle.std.specs.Prelude.{Vec, IfOk, IfErr}
use Rattle.std.proofs.Common.{◌≡◌, ℕ, List, length, map, ◌∙◌, subst}
use Rattle.class_chains.specs.Ends.{Ends, IsWay, IsAboveFirst, IsOpenAt}
use Rattle.class_parts.specs.Above.{numbers_above}
use Rattle.class_parts.proofs.Ways.{all_end_in, orders_in, opens_in, above_is_way, way_is_above}
use Rattle.class_parts.proofs.chain.bases_first.Goals as goal

pub returns-clause-end : goal.returns-clause-end
returns-clause-end c =
    let h = rw (c.as_slice.ensures.value, c.in_ok-ways.ensures) at c.above_first.ensures.all_end in
    all_end_in _ _ (above_is_way c.args.types.now) (way_is_above c.args.types.now) 0 _ h

pub returns-clause-order : goal.returns-clause-order
returns-clause-order c =
    let h = rw (c.as_slice.ensures.value, c.in_ok-ways.ensures, length-map) at c.above_first.ensures.order in
    orders_in _ _ (above_is_way c.args.types.now) (way_is_above c.args.types.now) _ _ h

pub returns-clause-open : goal.returns-clause-open
returns-clause-open c =
    let h = rw (c.as_slice.ensures.value, c.in_ok-ways.ensures) at c.above_first.ensures.open in
    opens_in _ _ (above_is_way c.args.types.now) (way_is_above c.args.types.now) 0 _ h
