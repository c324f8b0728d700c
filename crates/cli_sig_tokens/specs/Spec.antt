-- A type by itself, as a row of TypeSpec has it (ECMA-335 II.22.39, II.23.2.14).
use Rattle.std.specs.Prelude.{◌≡◌, ℕ, List, Option, Some, None}
use Rattle.cli_signature.specs.declared.kind.Slot.TheVariants.{Behind}
use Rattle.cli_signature.specs.declared.raw.RawTy.{RawTy}
use Rattle.cli_signature.specs.Grammar.{Way, IsWay, spelled_way, raw_of}

-- the blob is this type and no more, neither BYREF nor VOID
pub record IsSpec (blob : List ℕ) (ty : RawTy) : Type 0 where
  pub way : Way
  pub fits : IsWay Behind way
  pub is : blob ≡ spelled_way way
  pub read : ty ≡ raw_of way

-- the type that the blob is, where it is one
abbrev pub IsSpecOf : List ℕ → Option RawTy → Type 0
IsSpecOf blob (Some ty) = IsSpec blob ty
IsSpecOf blob None = (ty : RawTy) → IsSpec blob ty → ⊥
