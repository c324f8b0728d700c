-- The two orders of the types.
use Rattle.std.specs.Prelude.{ℕ, List, length}
use Rattle.class_chains.specs.Ends.{IsAboveFirst}
use Rattle.class_rows.specs.declared.row.TypeRow.{TypeRow}
use Rattle.class_rows.specs.Types.{IsAbove, IsOuter}
use Rattle.class_parts.specs.declared.chain.Orders.{Orders}

-- one has each type behind its base and the interfaces that it names, the other behind its outer type
pub record AreOrders (types : List TypeRow) (orders : Orders) : Type 0 where
  pub bases : IsAboveFirst (IsAbove types) (length types) orders.bases
  pub outers : IsAboveFirst (IsOuter types) (length types) orders.outers
