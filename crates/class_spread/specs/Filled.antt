-- Inner facts: a table that is under way.
use Rattle.std.specs.Prelude.{◌≡◌, ◌⊎◌, ℕ, ◌++◌, List, length, Option, Some, None, slice_get, nat_eq}
use Rattle.std.specs.List.{fold}
use Rattle.indexmap.specs.IndexSet.{insert_key}
use Rattle.dc_base.specs.declared.names.TypeId.{TypeId}
use Rattle.class_rows.specs.declared.row.TypeRow.{TypeRow}
use Rattle.class_rows.specs.Types.{IsNamed}
use Rattle.class_rows.specs.Lookups.{AreNamed}
use Rattle.class_spread.specs.declared.spread.Spread.{Spread}
use Rattle.class_spread.specs.Spreads.{IsTold, IsSpreadOut, IsRight, LinksGoUp}

-- keys after each of the numbers is inserted in turn
abbrev pub added : List ℕ → List ℕ → List ℕ
added keys xs = fold (insert_key nat_eq) keys xs

-- the type's interfaces are told
abbrev pub IsFilled : List (Option Spread) → ℕ → Type 0
IsFilled table t = (s : Spread) × (slice_get table t ≡ Some (Some s))

-- all that is told so far is right
pub record IsSoFar (types : List TypeRow) (table : List (Option Spread)) : Type 0 where
  pub long : length table ≡ length types
  pub links : LinksGoUp types table
  pub right : (t : ℕ) → IsFilled table t → IsRight types table t

-- one more type is told
pub record IsFurther (types : List TypeRow) (before after : List (Option Spread)) (t : ℕ) : Type 0 where
  pub so_far : IsSoFar types after
  pub filled : IsFilled after t
  pub kept : (i : ℕ) → IsFilled before i → IsFilled after i

abbrev pub AllTold : List (Option Spread) → List TypeId → Type 0
AllTold table named = (k : ℕ) (i : TypeId) → slice_get named k ≡ Some i → IsFilled table i.0

-- a spread tells this list, over what a table tells already
abbrev pub Tells : List (Option Spread) → Spread → List ℕ → Type 0
Tells table s list =
    ((s.onward ≡ None) × (s.own ≡ list))
    ⊎ ((b : ℕ) × (rest : List ℕ) × (s.onward ≡ Some b) × IsTold table b rest × (list ≡ s.own ++ rest))

pub record IsSpreadFor (types : List TypeRow) (table : List (Option Spread)) (t : ℕ) (s : Spread) : Type 0 where
  pub named : List ℕ
  pub are_named : AreNamed types t named
  pub list : List ℕ
  pub tells : Tells table s list
  pub out : IsSpreadOut types named list
  pub link : (b : ℕ) → s.onward ≡ Some b → IsNamed types t b
