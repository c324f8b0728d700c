use Rattle.std.proofs.Common.{◌≡◌, ◌++◌, ◌∷◌, [], List, Option, None, subst, arith, rules}
use Rattle.class_spread.specs.declared.spread.Spread.{Spread}
use Rattle.class_spread.specs.Filled.{IsFilled}
use Rattle.class_spread.proofs.Table.{none_filled, nothing_told}
use Rattle.class_spread.proofs.spread.empty.Goals as goal

pub loop-preserved : goal.loop-preserved
loop-preserved c =
    let e : c.push.new.self.items ≡ c.loop.table.items ++ (None ∷ []) = search rules in
    (search rules, λ t filled. none_filled c.loop.table.items c.loop.invariant.1 t (subst (λ (xs : List (Option Spread)). IsFilled xs t) e filled))

pub returns : goal.returns
returns c = nothing_told c.args.types.now c.loop.table.items (omega arith) c.loop.invariant.1
