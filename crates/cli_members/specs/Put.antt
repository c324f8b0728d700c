-- Inner facts: what one row of MethodSemantics changes in the list of roles.
use Rattle.std.specs.Prelude.{◌≡◌, ◌≢◌, ◌⊎◌, ℕ, ◌+◌, ◌/◌, ◌^◌, ◌==◌, false, Bool, cond, List, length, slice_get, Option, Some, None}
use Rattle.dc_base.specs.declared.names.Token.{Token}
use Rattle.cli_flags.specs.Flags.{is_set}
use Rattle.cli_members.specs.declared.roles.Role.{Role}
use Rattle.cli_members.specs.declared.roles.Role.TheVariants as role

abbrev pub of_property : Option Token → Bool
of_property None = false
of_property (Some token) = token.0 / 2 ^ 24 == 0x17

abbrev pub role_in : ℕ → Option Token → Role
role_in semantics association =
    cond (of_property association) (cond (is_set 0x2 semantics) role.Getter (cond (is_set 0x1 semantics) role.Setter role.None)) role.None

-- a role of a method was written down, where it is one
pub record IsPut (method : ℕ) (what : Role) (before after : List Role) : Type 0 where
  pub long : length after ≡ length before
  pub each : (j : ℕ) (seen : Role) → slice_get after j ≡ Some seen →
      ((what ≢ role.None) × (method ≡ j + 1) × (seen ≡ what)) ⊎ (((what ≡ role.None) ⊎ (method ≢ j + 1)) × (slice_get before j ≡ Some seen))
