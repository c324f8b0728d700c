-- What a list of the rows that fields own says of one field.
use Rattle.std.proofs.Common.{◌≡◌, ℕ, zero, suc, ◌+◌, ◌-◌, ◌<◌, ◌≤◌, Some, List, [], ◌∷◌, length, inl, inr, refl, subst, arith}
use Rattle.std.specs.List.{slice_get, slice_index_or}
use Rattle.std.proofs.lemmas.Bool.{cases_lt}
use Rattle.dc_causes.specs.First.{IsLeast}
use Rattle.cli_metadata.specs.declared.tables.Table.TheVariants as tables
use Rattle.cli_metadata.specs.Metadata.{Contents, rows_of}
use Rattle.cli_constants.specs.Owned.{IsConstantOf, AreMany, over, one_more, passed, IsOwned, AreConstants}

pub item : {X : Type 0} (xs : List X) (n : ℕ) (d : X) → n < length xs → slice_get xs n ≡ Some (slice_index_or xs n d)
item [] n d lt = absurd (omega arith)
item (x ∷ xs) zero d lt = refl
item (x ∷ xs) (suc n) d lt = item xs n d (omega arith)

pub owned_by : (m : Contents) (constants : List (ℕ × ℕ)) (f : ℕ) → AreConstants m constants → 1 ≤ f → f ≤ rows_of m tables.Field → IsOwned m f (slice_index_or constants (f - 1) (0, 0))
owned_by m constants f are low high =
    let long = are.long in
    let same : f - 1 + 1 ≡ f = omega (arith, low) in
    subst (λ (x : ℕ). IsOwned m x (slice_index_or constants (f - 1) (0, 0))) same
    (are.each (f - 1) (slice_index_or constants (f - 1) (0, 0)) (item constants (f - 1) (0, 0) (omega (arith, long, low, high))))

none_there : (Is : ℕ → Type 0) (last k n : ℕ) → AreMany Is last k n → n ≡ 0 → (r : ℕ) → k ≤ r → r ≤ last → Is r → ⊥
none_there Is last k n (over k_ le) e r from to is = omega (arith, le, from, to)
none_there Is last k n (one_more k_ n_ here more) e r from to is = omega (arith, e)
none_there Is last k n (passed k_ n_ not_here more) e r from to is = elim (cases_lt k r) [
  | inl lt ↦ none_there Is last (k + 1) n more e r (omega (arith, lt)) to is
  | inr le ↦ (let same : r ≡ k = omega (arith, le, from) in not_here (subst (λ (x : ℕ). Is x) same is))
]

pub no_constant : (m : Contents) (f : ℕ) (found : ℕ × ℕ) → IsOwned m f found → found.0 ≡ 0 → (r : ℕ) → IsConstantOf m f r → ⊥
no_constant m f found so e r is = let low = is.low in none_there (IsConstantOf m f) (rows_of m tables.Constant) 1 found.0 so.count e r low is.high is

pub first_constant : (m : Contents) (f : ℕ) (found : ℕ × ℕ) → IsOwned m f found → (found.0 ≡ 0 → ⊥) → IsLeast (IsConstantOf m f) found.1
first_constant m f found so some = elim so.first [
  | inl first ↦ first
  | inr none ↦ absurd (some none)
]
