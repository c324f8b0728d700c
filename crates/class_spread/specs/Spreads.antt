-- A table of the interfaces of each type.
use Rattle.std.specs.Prelude.{◌≡◌, ℕ, ◌<◌, ◌≤◌, ◌++◌, List, length, Option, Some, None, slice_get}
use Rattle.class_rows.specs.declared.row.TypeRow.{TypeRow}
use Rattle.class_rows.specs.Types.{IsNamed}
use Rattle.class_rows.specs.Lookups.{AreNamed, AreSpread, firsts}
use Rattle.class_spread.specs.declared.spread.Spread.{Spread}

-- the numbers that a table tells of a type: its own, and then those of the type that they go on with
pub data IsTold (table : List (Option Spread)) : ℕ → List ℕ → Type 0 where
  ended : (t : ℕ) (s : Spread) → slice_get table t ≡ Some (Some s) → s.onward ≡ None → IsTold table t s.own
  further : (t b : ℕ) (s : Spread) (rest : List ℕ) → slice_get table t ≡ Some (Some s) → s.onward ≡ Some b → IsTold table b rest → IsTold table t (s.own ++ rest)

-- interfaces, each directly followed by those that it names, each once where it occurs first
abbrev pub IsSpreadOut : List TypeRow → List ℕ → List ℕ → Type 0
IsSpreadOut types is list = (spread : List ℕ) × AreSpread types is spread × (list ≡ firsts spread)

-- what is told of a type are the interfaces that it names, spread out
pub record IsRight (types : List TypeRow) (table : List (Option Spread)) (t : ℕ) : Type 0 where
  pub named : List ℕ
  pub are_named : AreNamed types t named
  pub list : List ℕ
  pub told : IsTold table t list
  pub out : IsSpreadOut types named list

-- a type goes on with one that it names
abbrev pub LinksGoUp : List TypeRow → List (Option Spread) → Type 0
LinksGoUp types table = (t b : ℕ) (s : Spread) → slice_get table t ≡ Some (Some s) → s.onward ≡ Some b → IsNamed types t b

-- all that is told is right, and it is told of each type
pub record AreSpreads (types : List TypeRow) (table : List (Option Spread)) : Type 0 where
  pub links : LinksGoUp types table
  pub right : (t : ℕ) → t < length types → IsRight types table t
  pub within : (t : ℕ) → length types ≤ t → slice_get table t ≡ None
