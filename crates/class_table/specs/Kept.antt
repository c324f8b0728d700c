-- Inner facts: what a table keeps beside its rows.
use Rattle.std.specs.Prelude.{ℕ, ◌<◌, ◌^◌, List, length}
use Rattle.dc_base.specs.declared.names.MemberId.{MemberId}
use Rattle.class_rows.specs.declared.row.TypeRow.{TypeRow}
use Rattle.class_rows.specs.declared.row.MemberRow.{MemberRow}
use Rattle.class_rows.specs.Table.{IsClassTable}
use Rattle.class_parts.specs.Orders.{AreOrders}
use Rattle.class_alike.specs.declared.named.Named.{Named}
use Rattle.class_alike.specs.Named.{IsNamed}
use Rattle.class_assign.specs.declared.supers.Supers.{Supers}
use Rattle.class_assign.specs.Supers.{AreSupers}
use Rattle.class_slots.specs.Slots.{AreSlots}
use Rattle.class_table.specs.declared.known.Known.{Known}

-- the orders of the types and the members by their names
pub record IsKnown (types : List TypeRow) (members : List MemberRow) (explicit : List (MemberId × MemberId)) (known : Known) : Type 0 where
  pub orders : AreOrders types known.orders
  pub named : IsNamed types members explicit known.named

-- the rows make a class table and can be counted, and the rest is theirs
pub record IsKept (types : List TypeRow) (members : List MemberRow) (explicit : List (MemberId × MemberId)) (supers : Supers) (named : Named) (slots : List ℕ) : Type 0 where
  pub table : IsClassTable types members explicit
  pub few_types : length types < 2 ^ 32
  pub few_members : length members < 2 ^ 32
  pub are_supers : AreSupers types supers
  pub is_named : IsNamed types members explicit named
  pub are_slots : AreSlots types members explicit slots
