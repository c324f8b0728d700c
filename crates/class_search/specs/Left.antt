-- What is still to be searched, as lists.
use Rattle.std.specs.Prelude.{ℕ, zero, suc, List, [], ◌∷◌, ◌++◌, length, Option, Some, None, slice_get}
use Rattle.dc_base.specs.declared.names.TypeId.{TypeId}
use Rattle.class_rows.specs.declared.row.TypeRow.{TypeRow}
use Rattle.class_chains.specs.Ends.{IsAboveFirst}
use Rattle.class_rows.specs.Types.{IsAbove}
use Rattle.class_spread.specs.declared.spread.Spread.{Spread}
use Rattle.class_spread.specs.Spreads.{LinksGoUp}
use Rattle.class_assign.specs.declared.supers.Supers.{Supers}
use Rattle.class_assign.specs.Supers.{AreSupers}
use Rattle.class_search.specs.declared.interfaces.Interfaces.{Interfaces}
use Rattle.class_search.specs.declared.search.Search.{Search}

abbrev pub base_at : Option TypeRow → Option TypeId
base_at None = None
base_at (Some row) = row.base

-- a type and its base chain, so many types at most
abbrev pub chain_left : List TypeRow → ℕ → Option TypeId → List ℕ
chain_left types zero up = []
chain_left types (suc n) None = []
chain_left types (suc n) (Some t) = t.0 ∷ chain_left types n (base_at (slice_get types t.0))

abbrev pub own_at : Option (Option Spread) → List ℕ
own_at None = []
own_at (Some None) = []
own_at (Some (Some s)) = s.own

abbrev pub onward_at : Option (Option Spread) → Option ℕ
onward_at None = None
onward_at (Some None) = None
onward_at (Some (Some s)) = s.onward

-- the interfaces of a type, over so many types at most
abbrev pub told_left : List (Option Spread) → ℕ → Option ℕ → List ℕ
told_left table zero on = []
told_left table (suc n) None = []
told_left table (suc n) (Some t) = own_at (slice_get table t) ++ told_left table n (onward_at (slice_get table t))

-- more steps than lead up from any type
abbrev pub steps : Supers → ℕ
steps supers = suc (suc (length supers.orders.bases))

abbrev pub interfaces_left : Supers → Interfaces → List ℕ
interfaces_left supers interfaces = interfaces.own.now ++ told_left supers.spreads (steps supers) interfaces.onward

abbrev pub last_left : Option TypeId → List ℕ
last_left None = []
last_left (Some t) = t.0 ∷ []

abbrev pub types_left : Search → List ℕ
types_left search =
    chain_left search.types.now (steps search.supers.now) search.up
    ++ (interfaces_left search.supers.now search.interfaces ++ last_left search.last)

-- the links of the table of interfaces lead up
pub record CanFollow (supers : Supers) : Type 0 where
  pub types : List TypeRow
  pub first : IsAboveFirst (IsAbove types) (length types) supers.orders.bases
  pub links : LinksGoUp types supers.spreads

abbrev pub CanSearch : Search → Type 0
CanSearch search = AreSupers search.types.now search.supers.now
