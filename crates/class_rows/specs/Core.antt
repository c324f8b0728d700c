-- The types of the namespace System that each table has.
use Rattle.std.specs.Prelude.{◌≡◌, ℕ, ◌<◌, List, [], ◌∷◌, length, codes, Some, None, slice_get, false}
use Rattle.class_rows.specs.declared.row.TypeRow.{TypeRow}
use Rattle.class_rows.specs.Types.{HasType, InBaseChain, IsClass}

-- a type of the references that is nested in none and is declared in System under this name
abbrev pub IsSystem : List TypeRow → List ℕ → ℕ → Type 0
IsSystem types name t =
    HasType types t (λ row. (row.own ≡ false) × (row.outer ≡ None) × (row.space ≡ codes "System") × (row.name ≡ name))

-- what a core type must be: any type, a class, or a class that derives from System.Exception
pub data Demand : Type 0 where
  any : Demand
  a_class : Demand
  an_exception : Demand

abbrev pub Meets : List TypeRow → Demand → ℕ → Type 0
Meets types any t = Unit {0}
Meets types a_class t = HasType types t (λ row. IsClass row.kind)
Meets types an_exception t =
    HasType types t (λ row. IsClass row.kind) × ((e : ℕ) × IsSystem types (codes "Exception") e × InBaseChain types t e)

-- the core types in their order
abbrev pub core_types : List (List ℕ × Demand)
core_types =
    (codes "Object", any) ∷ (codes "ValueType", any) ∷ (codes "Enum", any) ∷ (codes "Array", any)
    ∷ (codes "String", any) ∷ (codes "Delegate", any) ∷ (codes "MulticastDelegate", any) ∷ (codes "Exception", a_class)
    ∷ (codes "Boolean", any) ∷ (codes "Char", any) ∷ (codes "SByte", any) ∷ (codes "Byte", any)
    ∷ (codes "Int16", any) ∷ (codes "UInt16", any) ∷ (codes "Int32", any) ∷ (codes "UInt32", any)
    ∷ (codes "Int64", any) ∷ (codes "UInt64", any)
    ∷ (codes "NullReferenceException", an_exception) ∷ (codes "InvalidCastException", an_exception)
    ∷ (codes "IndexOutOfRangeException", an_exception) ∷ (codes "ArrayTypeMismatchException", an_exception)
    ∷ (codes "OverflowException", an_exception) ∷ (codes "DivideByZeroException", an_exception) ∷ []

-- this is the core type of this number
pub record IsCore (types : List TypeRow) (k t : ℕ) : Type 0 where
  pub core : List ℕ × Demand
  pub listed : slice_get core_types k ≡ Some core
  pub declared : IsSystem types core.0 t
  pub meets : Meets types core.1 t

-- the core type of this number isn't there
pub record IsMissingCore (types : List TypeRow) (k : ℕ) : Type 0 where
  pub within : k < length core_types
  pub none : (t : ℕ) → IsCore types k t → ⊥

abbrev pub CoreIsThere : List TypeRow → Type 0
CoreIsThere types = (k : ℕ) → IsMissingCore types k → ⊥
