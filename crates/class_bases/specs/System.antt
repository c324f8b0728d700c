-- The types of the namespace System by their names, and the code's demands in the words of the list of core types.
use Rattle.std.specs.Prelude.{◌≡◌, ℕ, List, Option, Some, None, codes, slice_get, false}
use Rattle.std.specs.Borrow.{Bor}
use Rattle.std.specs.Str.{bytes_eq}
use Rattle.std.specs.Map.{lookup}
use Rattle.class_rows.specs.declared.row.TypeRow.{TypeRow}
use Rattle.class_rows.specs.Types.{InBaseChain}
use Rattle.class_rows.specs.Core.{IsSystem, Demand, any, a_class, an_exception, core_types}
use Rattle.class_bases.specs.declared.needed.Demand.{Demand as CodeDemand}
use Rattle.class_bases.specs.declared.needed.Demand.TheVariants.{Any, Class, Exception}

-- a type of the references that is nested in none and is declared in System
abbrev pub IsOfSystem : TypeRow → Type 0
IsOfSystem row = (row.own ≡ false) × (row.outer ≡ None) × (row.space ≡ codes "System")

-- the number at a name
abbrev pub at_name : List (Bor (List ℕ) × ℕ) → List ℕ → Option ℕ
at_name entries name = lookup (λ (key : Bor (List ℕ)). bytes_eq name key.now) entries

-- one type of System for each name that such a type has
pub record HasSystem (types : List TypeRow) (entries : List (Bor (List ℕ) × ℕ)) : Type 0 where
  pub sound : (name : List ℕ) (t : ℕ) → at_name entries name ≡ Some t → IsSystem types name t
  pub complete : (name : List ℕ) (t : ℕ) → IsSystem types name t → (s : ℕ) × (at_name entries name ≡ Some s)

-- what the code demands, in the words of the list
abbrev pub demand_of : CodeDemand → Demand
demand_of Any = any
demand_of Class = a_class
demand_of Exception = an_exception

-- the name and the demand of the core type of this number
abbrev pub IsNameOf : ℕ → List ℕ → Type 0
IsNameOf k name = (core : List ℕ × Demand) → slice_get core_types k ≡ Some core → name ≡ core.0

abbrev pub IsDemandOf : ℕ → Demand → Type 0
IsDemandOf k demand = (core : List ℕ × Demand) → slice_get core_types k ≡ Some core → demand ≡ core.1

-- a type derives from System.Exception
abbrev pub IsException : List TypeRow → ℕ → Type 0
IsException types t = (e : ℕ) × IsSystem types (codes "Exception") e × InBaseChain types t e
