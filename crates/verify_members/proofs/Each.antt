-- Items one after another.
use Rattle.std.proofs.Common.{◌≡◌, ◌⊎◌, ℕ, ◌+◌, ◌<◌, ◌≤◌, List, length, get_or, inl, inr, ap, ◌∙◌, subst, arith}
use Rattle.std.proofs.lemmas.Bool.{cases_lt}
use Rattle.std.proofs.lemmas.List.{get_or_default}
use Rattle.std.proofs.lemmas.List.Elements.{Contains-get_or}
use Rattle.std.specs.List.{Contains}

module _ {A : Type 0} (Fact : A → Type 0) (xs : List A) where
  -- what holds of the items so far, and of this one, holds of one more
  pub each_more : (i : ℕ) (d : A) → i < length xs → Fact (get_or xs i d)
      → ((k : ℕ) (e : A) → k < i → Fact (get_or xs k e))
      → (k : ℕ) (e : A) → k < i + 1 → Fact (get_or xs k e)
  each_more i d lt is before k e less = elim (cases_lt k i) [
    | inl lower ↦ before k e lower
    | inr more ↦
        let same : i ≡ k = omega (arith, less, more) in
        subst Fact (get_or_default xs i d e lt ∙ ap (λ j. get_or xs j e) same) is
  ]

  -- what holds of all, holds of each
  pub each_of_all : (i : ℕ) → length xs ≤ i → ((k : ℕ) (e : A) → k < i → Fact (get_or xs k e)) → (x : A) → Contains xs x → Fact x
  each_of_all i past all x has = subst Fact has.2 (all has.0 x (let lt = has.1 in omega (arith, lt, past)))

  pub not_each : (i : ℕ) (d : A) → i < length xs → (Fact (get_or xs i d) → ⊥) → ((x : A) → Contains xs x → Fact x) → ⊥
  not_each i d lt off all = off (all (get_or xs i d) (Contains-get_or xs i d lt))
