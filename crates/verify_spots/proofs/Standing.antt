-- What is said of where one instruction stands.
use Rattle.std.proofs.Common.{◌≡◌, ℕ, ◌+◌, ◌<◌, true, false, Bool, List, [], ◌∷◌, ◌++◌, length, get_or, below_more, sym, subst, arith}
use Rattle.std.proofs.lemmas.List.{get_or_append_left, get_or_at}
use Rattle.std.specs.Bool.{OnFalse}

-- what wants what is false is false
pub less : (b : Bool) (P Q : Type 0) → OnFalse b (P → ⊥) → (Q → P) → OnFalse b (Q → ⊥)
less true P Q no_ f = tt
less false P Q no_ f = λ q. no_ (f q)

-- one item more
pub pushed : {X : Type 0} (P : ℕ → X → Type 0) (xs : List X) (x : X) (n : ℕ) → length xs ≡ n → ((k : ℕ) → k < n → (d : X) → P k (get_or xs k d)) → P n x → (k : ℕ) → k < n + 1 → (d : X) → P k (get_or (xs ++ x ∷ []) k d)
pushed {X} P xs x n many each last =
    below_more (λ (k : ℕ). (d : X) → P k (get_or (xs ++ x ∷ []) k d)) n
    (λ k lt d. subst (P k) (sym (get_or_append_left xs (x ∷ []) d k (omega (arith, many, lt)))) (each k lt d))
    (λ d. subst (P n) (sym (get_or_at xs x [] d n many)) last)
