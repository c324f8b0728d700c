-- What is computed once of the types of a table.
use Rattle.std.specs.Prelude.{◌≡◌, ℕ, List, codes, None, false}
use Rattle.class_rows.specs.declared.row.TypeRow.{TypeRow}
use Rattle.class_rows.specs.Core.{IsSystem}
use Rattle.class_parts.specs.Orders.{AreOrders}
use Rattle.class_spread.specs.Spreads.{AreSpreads}
use Rattle.class_assign.specs.declared.supers.Supers.{Supers}

-- a type of the references that is nested in none and is declared in System under this name
abbrev pub IsDeclaredInSystem : List ℕ → TypeRow → Type 0
IsDeclaredInSystem name row = (row.own ≡ false) × (row.outer ≡ None) × (row.space ≡ codes "System") × (row.name ≡ name)

-- there is one such type, and it is this
pub record IsOnly (types : List TypeRow) (name : List ℕ) (t : ℕ) : Type 0 where
  pub is : IsSystem types name t
  pub one : (s : ℕ) → IsSystem types name s → s ≡ t

pub record AreSupers (types : List TypeRow) (supers : Supers) : Type 0 where
  pub orders : AreOrders types supers.orders
  pub spreads : AreSpreads types supers.spreads
  pub object : IsOnly types (codes "Object") supers.object.0
  pub array : IsOnly types (codes "Array") supers.array.0
