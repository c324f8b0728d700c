use Rattle.std.proofs.Common.{List, Option, codes, sym, subst}
use Rattle.class_spread.specs.declared.spread.Spread.{Spread}
use Rattle.class_spread.specs.Spreads.{AreSpreads}
use Rattle.class_assign.proofs.System.{only_one}
use Rattle.class_assign.proofs.supers.supers_of.Goals as goal

pub returns : goal.returns
returns c = record {
  orders = c.requires.orders;
  spreads = subst (λ (xs : List (Option Spread)). AreSpreads c.args.types.now xs) (sym c.of.ensures) c.in_ok-spreads.ensures;
  object = only_one c.args.types.now (codes "Object") c.object_of-object.result.0 c.requires.names c.object_of-object.ensures;
  array = only_one c.args.types.now (codes "Array") c.array_of-array.result.0 c.requires.names c.array_of-array.ensures;
}
