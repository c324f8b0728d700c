-- Types that have no instance fields.
use Rattle.std.specs.Prelude.{◌≡◌, ◌⊎◌, ℕ, ◌<◌, List, Bool, true, false, Some, codes, length, slice_get}
use Rattle.class_rows.specs.declared.row.TypeRow.{TypeRow}
use Rattle.class_rows.specs.declared.row.MemberRow.{MemberRow}
use Rattle.class_rows.specs.declared.row.Sort.TheVariants.{Field as FieldSort}
use Rattle.class_rows.specs.Types.{InBaseChain}
use Rattle.class_rows.specs.Core.{IsSystem}
use Rattle.class_rows.specs.Members.{sort_of}
use Rattle.class_rows.specs.Unique.{IsWithoutFields}

-- besides what was marked, the types in the base chains of these roots are
pub record Marks (types : List TypeRow) (Root : ℕ → Type 0) (old new : List Bool) : Type 0 where
  pub long : length new ≡ length old
  pub sound : (u : ℕ) → slice_get new u ≡ Some true → (slice_get old u ≡ Some true) ⊎ ((s : ℕ) × Root s × InBaseChain types s u)
  pub kept : (u : ℕ) → slice_get old u ≡ Some true → slice_get new u ≡ Some true
  pub added : (s u : ℕ) → Root s → InBaseChain types s u → u < length old → slice_get new u ≡ Some true

-- a type in the base chain of System.Object, ValueType, Enum, Array or String
abbrev pub IsBelowRoot : List TypeRow → ℕ → Type 0
IsBelowRoot types t = (s : ℕ) × InBaseChain types s t × (
    IsSystem types (codes "Object") s ⊎ IsSystem types (codes "ValueType") s ⊎ IsSystem types (codes "Enum") s
    ⊎ IsSystem types (codes "Array") s ⊎ IsSystem types (codes "String") s)

-- a flag is up exactly for those
pub record AreFieldless (types : List TypeRow) (flags : List Bool) : Type 0 where
  pub long : length flags ≡ length types
  pub sound : (t : ℕ) → slice_get flags t ≡ Some true → IsBelowRoot types t
  pub complete : (t : ℕ) → t < length types → IsBelowRoot types t → slice_get flags t ≡ Some true

-- an instance field of a type that has none
abbrev pub IsMisplacedRow : List TypeRow → MemberRow → Type 0
IsMisplacedRow types row = (sort_of row.kind ≡ FieldSort) × (row.is_static ≡ false) × IsWithoutFields types row.owner.0
