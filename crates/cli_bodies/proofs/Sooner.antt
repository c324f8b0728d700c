-- The least offset of the places that are off, one place after another.
use Rattle.std.proofs.Common.{◌≡◌, ℕ, ◌+◌, ◌<◌, ◌≤◌, ◌⊎◌, Option, Some, None, IfSome, IfNone, min, subst, inl, inr, arith}
use Rattle.std.proofs.lemmas.Bool.{cases_lt}
use Rattle.dc_causes.specs.First.{IsLeast}
use Rattle.cli_bodies.specs.Earlier.{sooner, IsLeastSoFar}

-- a number below k + 1 is below k, or it is k
last : (j k : ℕ) → j < k + 1 → (j < k) ⊎ (j ≡ k)
last j k lt = elim (cases_lt j k) as (λ _. (j < k) ⊎ (j ≡ k)) [ inl below ↦ inl below | inr above ↦ inr (omega arith) ]

pub kept : (Off : ℕ → ℕ → Type 0) (k : ℕ) (least : Option ℕ) → ((offset : ℕ) → Off k offset → ⊥) → IsLeastSoFar Off k least → IsLeastSoFar Off (k + 1) least
kept Off k None on so_far = λ j offset lt off.
    elim (last j k lt) as (λ _. ⊥) [ inl below ↦ so_far j offset below off | inr is ↦ on offset (let P : ℕ → Type 0 = λ n. Off n offset in subst P is off) ]
kept Off k (Some m) on (first, rest) = (
  (first.0, omega (arith, first.1), first.2),
  λ j offset lt off.
      elim (last j k lt) as (λ _. m ≤ offset) [
        | inl below ↦ rest j offset below off
        | inr is ↦ absurd (on offset (let P : ℕ → Type 0 = λ n. Off n offset in subst P is off))
      ],
)

pub taken : (Off : ℕ → ℕ → Type 0) (k n : ℕ) (least : Option ℕ) → Off k n → ((offset : ℕ) → Off k offset → offset ≡ n) → IsLeastSoFar Off k least → IsLeastSoFar Off (k + 1) (sooner least n)
taken Off k n None off one so_far = (
  (k, omega arith, off),
  λ j offset lt other.
      elim (last j k lt) as (λ _. n ≤ offset) [
        | inl below ↦ absurd (so_far j offset below other)
        | inr is ↦ omega (arith, one offset (let P : ℕ → Type 0 = λ i. Off i offset in subst P is other))
      ],
)
taken Off k n (Some m) off one (first, rest) = (
  elim (cases_lt m n) as (λ _. (i : ℕ) × (i < k + 1) × Off i (min m n)) [
    | inl below ↦
        let same : m ≡ min m n = omega arith in
        (first.0, omega (arith, first.1), let P : ℕ → Type 0 = λ i. Off first.0 i in subst P same first.2)
    | inr above ↦
        let same : n ≡ min m n = omega arith in
        (k, omega arith, let P : ℕ → Type 0 = λ i. Off k i in subst P same off)
  ],
  λ j offset lt other.
      elim (last j k lt) as (λ _. min m n ≤ offset) [
        | inl below ↦ let least : m ≤ offset = rest j offset below other in omega arith
        | inr is ↦ let same : offset ≡ n = one offset (let P : ℕ → Type 0 = λ i. Off i offset in subst P is other) in omega arith
      ],
)

-- all places were looked at
pub some : (Off : ℕ → ℕ → Type 0) (count : ℕ) (least : Option ℕ) → ((k offset : ℕ) → Off k offset → k < count) → IsLeastSoFar Off count least
    → IfSome least (IsLeast (λ offset. (k : ℕ) × Off k offset))
some Off count None within so_far = tt
some Off count (Some m) within (first, rest) = record {
  holds = (first.0, first.2);
  least = λ offset lt found. let least : m ≤ offset = rest found.0 offset (within found.0 offset found.1) found.1 in absurd (omega arith);
}

pub none : (Off : ℕ → ℕ → Type 0) (count : ℕ) (least : Option ℕ) → ((k offset : ℕ) → Off k offset → k < count) → IsLeastSoFar Off count least
    → IfNone least ((offset : ℕ) → (k : ℕ) × Off k offset → ⊥)
none Off count None within so_far = λ offset found. so_far found.0 offset (within found.0 offset found.1) found.1
none Off count (Some m) within so_far = tt
