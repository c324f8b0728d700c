-- Kinds of tokens. A grammar tells tokens apart by a number, their kind, and asks whether the next token's is among some.
use Rattle.std.specs.Prelude.{ℕ, Bool, true, false, not, ◌&&◌, ◌==◌, List, [], ◌∷◌}
use Rattle.std.specs.List.{list_any}

-- the kind is one of these
abbrev pub has : List ℕ → ℕ → Bool
has kinds k = list_any (λ x. x == k) kinds

-- the next token has one of these kinds
abbrev pub begins : {T : Type 0} → (T → ℕ) → List ℕ → List T → Bool
begins kind kinds [] = false
begins kind kinds (t ∷ ts) = has kinds (kind t)

-- no kind is in both
abbrev pub disjoint : List ℕ → List ℕ → Bool
disjoint [] ys = true
disjoint (x ∷ xs) ys = not (has ys x) && disjoint xs ys

-- each kind of the first is in the second
abbrev pub subset : List ℕ → List ℕ → Bool
subset [] ys = true
subset (x ∷ xs) ys = has ys x && subset xs ys
