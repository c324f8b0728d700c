-- Numbers as signatures and heaps spell them (ECMA-335 II.23.2): the highest byte first, in the shortest of three forms.
use Rattle.std.specs.Prelude.{◌≡◌, ℕ, ◌+◌, ◌/◌, ◌%◌, ◌^◌, ◌<◌, List, [], ◌∷◌, length, take, nat_lt, if◌then◌else◌}

-- The bytes of a number below 2 ^ 29: one byte below 2 ^ 7, else two below 2 ^ 14, the first with the top bits 10, else
-- four, the first with the top bits 110.
abbrev pub spelling : ℕ → List ℕ
spelling n =
    if nat_lt n 128 then n ∷ []
    else (if nat_lt n 16384 then (128 + n / 256) ∷ (n % 256) ∷ []
    else (192 + n / 16777216) ∷ (n / 65536 % 256) ∷ (n / 256 % 256) ∷ (n % 256) ∷ [])

-- the bytes begin with the spelling of this number, which is this long
pub record BeginsWithNumber (bytes : List ℕ) (n : ℕ) (len : ℕ) : Type 0 where
  pub fits : n < 2 ^ 29
  pub long : len ≡ length (spelling n)
  pub spelled : take len bytes ≡ spelling n

-- the bytes begin with the spelling of no number
abbrev pub BeginsWithNone : List ℕ → Type 0
BeginsWithNone bytes = (n len : ℕ) → BeginsWithNumber bytes n len → ⊥

-- bytes begin with the spelling of one number at most
abbrev pub BeginsWithOne : Type 0
BeginsWithOne = (bytes : List ℕ) (m n k l : ℕ) → BeginsWithNumber bytes m k → BeginsWithNumber bytes n l → (m ≡ n) × (k ≡ l)
