-- Why a blob is no signature. `W` says which blobs are.
use Rattle.std.specs.Prelude.{◌≡◌, ◌⊎◌, ℕ, ◌/◌, ◌%◌, ◌<◌, List, [], ◌∷◌, ◌++◌, length, take}
use Rattle.cli_signature.specs.declared.element.Part.TheVariants.{Plain, LeftOut as LeftOutPart}
use Rattle.dc_base.specs.declared.failure.Or.{Or}
use Rattle.dc_base.specs.declared.failure.Or.TheVariants.{NoMemory, Fault}
use Rattle.cli_signature.specs.declared.raw.SigFault.{SigFault}
use Rattle.cli_signature.specs.declared.raw.SigFault.TheVariants.{Truncated, BadElement, OutOfProfile, Trailing}
use Rattle.cli_signature.specs.Element.{part_of}

-- a signature goes on from these bytes
abbrev pub IsViable : (List ℕ → Type 0) → List ℕ → Type 0
IsViable W front = (more : List ℕ) × W (front ++ more)

-- a byte stands at this place, behind a front that no signature goes on from with that byte, and that isn't whole
pub record Breaks (W : List ℕ → Type 0) (blob : List ℕ) (place : ℕ) (byte : ℕ) : Type 0 where
  pub front : List ℕ
  pub rest : List ℕ
  pub is : blob ≡ front ++ byte ∷ rest
  pub at : place ≡ length front
  pub viable : IsViable W front
  pub unfinished : W front → ⊥
  pub stuck : IsViable W (front ++ byte ∷ []) → ⊥

-- an element is due behind these bytes: each that is a type by itself can stand there
abbrev pub IsElementDue : (List ℕ → Type 0) → List ℕ → Type 0
IsElementDue W front = (e : ℕ) → part_of e ≡ Plain → IsViable W (front ++ e ∷ [])

-- a lead byte of the calling convention VARARG, or with the flag GENERIC or EXPLICITTHIS, bits 10 and 40
-- (ECMA-335 II.23.2.1)
abbrev pub IsLeadLeftOut : ℕ → Type 0
IsLeadLeftOut byte = (byte % 16 ≡ 5) ⊎ ((byte / 0x10 % 2 ≡ 1) ⊎ (byte / 0x40 % 2 ≡ 1))

-- the byte is a lead or an element of the standard that isn't taken
abbrev pub IsLeftOut : (List ℕ → Type 0) → List ℕ → ℕ → Type 0
IsLeftOut W front byte = ((front ≡ []) × IsLeadLeftOut byte) ⊎ (IsElementDue W front × (part_of byte ≡ LeftOutPart))

abbrev pub IsSigFault : (List ℕ → Type 0) → List ℕ → SigFault → Type 0
IsSigFault W blob (Truncated place) = (place ≡ length blob) × IsViable W blob × (W blob → ⊥)
IsSigFault W blob (BadElement place byte) = (b : Breaks W blob place byte) × (IsLeftOut W b.front byte → ⊥)
IsSigFault W blob (OutOfProfile place byte) = (b : Breaks W blob place byte) × IsLeftOut W b.front byte
IsSigFault W blob (Trailing place) = (place < length blob) × W (take place blob)
