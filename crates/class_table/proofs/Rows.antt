-- A fact of each row so far, and of the next one.
use Rattle.std.proofs.Common.{◌≡◌, ℕ, ◌+◌, ◌<◌, ◌≤◌, Some, List, length, get_or, ◌∙◌, ap, subst, inl, inr, arith}
use Rattle.std.specs.List.{slice_get}
use Rattle.std.proofs.lemmas.Bool.{cases_lt}
use Rattle.std.proofs.lemmas.Option.{slice_get_within, get_or_from_slice_get}

pub all_so : {X : Type 0} (P : X → Type 0) (xs : List X) (i : ℕ) (d : X) → ((k : ℕ) (x : X) → k < i → slice_get xs k ≡ Some x → P x) → P (get_or xs i d) → (k : ℕ) (x : X) → k < i + 1 → slice_get xs k ≡ Some x → P x
all_so {X} P xs i d all here k x lt at = elim (cases_lt k i) [
  | inl less ↦ all k x less at
  | inr le ↦
      let same : i ≡ k = omega (arith, lt, le) in
      subst P (get_or_from_slice_get xs i x d (ap (λ (n : ℕ). slice_get xs n) same ∙ at)) here
]

pub all_are : {X : Type 0} (P : X → Type 0) (xs : List X) (i : ℕ) → length xs ≤ i → ((k : ℕ) (x : X) → k < i → slice_get xs k ≡ Some x → P x) → (k : ℕ) (x : X) → slice_get xs k ≡ Some x → P x
all_are P xs i end all k x at = let lt = slice_get_within xs k x at in all k x (omega (arith, lt, end)) at
