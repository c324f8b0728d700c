-- The types that tell what a type is by being its base (ECMA-335 II.14.3, II.14.6, II.13).
use Rattle.std.specs.Prelude.{◌≡◌, ℕ, List, codes, Option, Some, None, false}
use Rattle.dc_base.specs.declared.names.TypeId.{TypeId}
use Rattle.dc_causes.specs.First.{IsLeast}
use Rattle.class_rows.specs.declared.row.TypeRow.{TypeRow}
use Rattle.class_rows.specs.Types.{HasType}
use Rattle.cli_kinds.specs.declared.system.System.{System}

-- a type of the references at the top of the namespace System, with this name
abbrev pub IsSystemRow : List ℕ → TypeRow → Type 0
IsSystemRow name row = (row.own ≡ false) × (row.outer ≡ None) × (row.space ≡ codes "System") × (row.name ≡ name)

-- the first such type, where there is one
abbrev pub IsFirstSystem : List TypeRow → List ℕ → Option TypeId → Type 0
IsFirstSystem types name (Some t) = IsLeast (λ n. HasType types n (IsSystemRow name)) t.0
IsFirstSystem types name None = (t : ℕ) → HasType types t (IsSystemRow name) → ⊥

pub record IsSystemTypes (types : List TypeRow) (system : System) : Type 0 where
  pub enums : IsFirstSystem types (codes "Enum") system.enums
  pub delegates : IsFirstSystem types (codes "MulticastDelegate") system.delegates
  pub values : IsFirstSystem types (codes "ValueType") system.values
