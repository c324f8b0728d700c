-- Rows of TypeRef and MemberRef that are reached and mean nothing (ECMA-335 II.22.25, II.22.38).
use Rattle.std.specs.Prelude.{◌≡◌, ◌⊎◌, ℕ, ◌+◌, Bool, true, false, List, slice_get, slice_index_or, Option, Some, None}
use Rattle.dc_causes.specs.First.{IsLeast}
use Rattle.dc_base.specs.declared.names.MemberId.{MemberId}
use Rattle.dc_base.specs.declared.names.Token.{Token}
use Rattle.dc_base.specs.declared.names.TypeId.{TypeId}
use Rattle.cli_named.specs.declared.numbers.Numbers.{Numbers}
use Rattle.cli_named.specs.Rows.{token_at}
use Rattle.cli_named.specs.Numbers.{members_from}

-- row k + 1 of a table, before whose rows so many have numbers, is reached and means nothing
pub record IsLost {X : Type 0} (marks : List Bool) (before : ℕ) (found : List (Option X)) (k : ℕ) : Type 0 where
  pub reached : slice_index_or marks (before + k) false ≡ true
  pub nothing : slice_get found k ≡ Some None

abbrev pub IsLostType : List Bool → List (Option TypeId) → ℕ → Type 0
IsLostType marks types k = IsLost marks 0 types k

abbrev pub IsLostMember : Numbers → List Bool → List (Option MemberId) → ℕ → Type 0
IsLostMember numbers marks members k = IsLost marks (members_from numbers) members k

-- the token of the first row of TypeRef that is lost, else of the first one of MemberRef
abbrev pub IsFirstLost : Numbers → List Bool → List (Option TypeId) → List (Option MemberId) → Option Token → Type 0
IsFirstLost numbers marks types members (Some token) =
    ((k : ℕ) × IsLeast (IsLostType marks types) k × (token ≡ token_at 0x01 (k + 1)))
    ⊎ (((k : ℕ) → IsLostType marks types k → ⊥) × ((k : ℕ) × IsLeast (IsLostMember numbers marks members) k × (token ≡ token_at 0x0A (k + 1))))
IsFirstLost numbers marks types members None = ((k : ℕ) → IsLostType marks types k → ⊥) × ((k : ℕ) → IsLostMember numbers marks members k → ⊥)
