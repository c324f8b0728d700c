-- Conditions that are asked of rows, and keys that stand twice.
use Rattle.std.specs.Prelude.{◌≡◌, ℕ, ◌<◌, Bool, true, List, length, slice_index_or}
use Rattle.dc_causes.specs.Step.{Step, Test}
use Rattle.dc_causes.specs.Causes.{InOrder, Below}

-- a condition is asked of all of its rows; the least row of which it doesn't hold counts
abbrev pub OfRow : {S C : Type 0} → (C → S → ℕ) → (C → S → ℕ → Type 0) → S → C → Step (Unit {0}) (C × ℕ)
OfRow rows Holds subject c = Below (rows c subject) (λ row. Test (Holds c subject row) (c, row))

-- each condition in its order is asked of all of its rows; the first that doesn't hold counts, at the least row
abbrev pub OfRows : {S C : Type 0} → (C → S → ℕ) → (C → S → ℕ → Type 0) → S → List C → Step (Unit {0}) (C × ℕ)
OfRows rows Holds subject = InOrder (OfRow rows Holds subject)

-- all rules are asked of one place; the first that doesn't hold counts
abbrev pub AtPlace : {S C : Type 0} → (C → S → ℕ → Type 0) → S → ℕ → List C → Step (Unit {0}) (C × ℕ)
AtPlace Holds subject place = InOrder (λ c. Test (Holds c subject place) (c, place))

-- at each place in its order all rules are asked; the least place counts, and there the first rule that doesn't hold
abbrev pub InTurn : {S C : Type 0} → ℕ → (C → S → ℕ → Type 0) → S → List C → Step (Unit {0}) (C × ℕ)
InTurn places Holds subject rules = Below places (λ place. AtPlace Holds subject place rules)

-- an earlier index than this one has an equal key
pub record IsRepeated {K : Type 0} (eq : K → K → Bool) (keys : List K) (n : ℕ) : Type 0 where
  pub within : n < length keys
  pub earlier : ℕ
  pub before : earlier < n
  pub equal : (d : K) → eq (slice_index_or keys n d) (slice_index_or keys earlier d) ≡ true
