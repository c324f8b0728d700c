-- Items of lists, by their indices.
use Rattle.std.proofs.Common.{◌≡◌, ◌⊎◌, ℕ, zero, suc, ◌+◌, ◌<◌, ◌≤◌, Some, None, List, [], ◌∷◌, ◌++◌, length, take, get_or, subst, refl, sym, ◌∙◌, ap, inl, inr, arith}
use Rattle.std.specs.List.{slice_get}
use Rattle.std.proofs.lemmas.List.{take_more, take_all}
use Rattle.std.proofs.lemmas.Option.{slice_get_read}

-- an index has one item
pub one_item : {X : Type 0} (xs : List X) (n : ℕ) (a b : X) → slice_get xs n ≡ Some a → slice_get xs n ≡ Some b → a ≡ b
one_item xs n a b p q = let e : Some a ≡ Some b = sym p ∙ q in cc

-- an index within a list has one
pub item_at : {X : Type 0} (xs : List X) (n : ℕ) → n < length xs → (x : X) × (slice_get xs n ≡ Some x)
item_at [] n lt = absurd (omega (arith, lt))
item_at (x ∷ xs) zero lt = (x, refl)
item_at (x ∷ xs) (suc n) lt = item_at xs n (omega (arith, lt))

pub item_kept : {X : Type 0} (xs ys : List X) (n : ℕ) (x : X) → slice_get xs n ≡ Some x → slice_get (xs ++ ys) n ≡ Some x
item_kept [] ys n x h = let none : None ≡ Some x = h in absurd cc
item_kept (y ∷ xs) ys zero x h = h
item_kept (y ∷ xs) ys (suc n) x h = item_kept xs ys n x h

pub last_item : {X : Type 0} (xs : List X) (y : X) → slice_get (xs ++ (y ∷ [])) (length xs) ≡ Some y
last_item [] y = refl
last_item (x ∷ xs) y = last_item xs y

-- an item of a list with one more is one of the list, or that one
pub pushed_item : {X : Type 0} (xs : List X) (y : X) (n : ℕ) (x : X) → slice_get (xs ++ (y ∷ [])) n ≡ Some x → (slice_get xs n ≡ Some x) ⊎ ((n ≡ length xs) × (x ≡ y))
pushed_item [] y zero x h = let e : Some y ≡ Some x = h in inr (refl, cc)
pushed_item [] y (suc n) x h = let none : None ≡ Some x = h in absurd cc
pushed_item (z ∷ xs) y zero x h = inl h
pushed_item (z ∷ xs) y (suc n) x h = elim (pushed_item xs y n x h) [
  | inl old ↦ inl old
  | inr new ↦ inr (ap suc new.0, new.1)
]

-- an item that was read there stands there
pub read_item : {X : Type 0} (xs : List X) (n : ℕ) (x : X) → n < length xs → x ≡ get_or xs n x → slice_get xs n ≡ Some x
read_item xs n x lt is = slice_get_read xs (length xs) n x refl lt is

-- a fact of each item so far, and of the next one
pub taken_more : {X : Type 0} (P : X → Type 0) (xs : List X) (i : ℕ) (d : X) → i < length xs → ((k : ℕ) (x : X) → slice_get (take i xs) k ≡ Some x → P x) → P (get_or xs i d) → (k : ℕ) (x : X) → slice_get (take (i + 1) xs) k ≡ Some x → P x
taken_more {X} P xs i d lt all here k x at =
    elim (pushed_item (take i xs) (get_or xs i d) k x (subst (λ (ys : List X). slice_get ys k ≡ Some x) (take_more xs i d lt) at)) [
      | inl old ↦ all k x old
      | inr new ↦ subst P (sym new.1) here
    ]

pub taken_all : {X : Type 0} (P : X → Type 0) (xs : List X) (i : ℕ) → length xs ≤ i → ((k : ℕ) (x : X) → slice_get (take i xs) k ≡ Some x → P x) → (k : ℕ) (x : X) → slice_get xs k ≡ Some x → P x
taken_all {X} P xs i le all k x at = all k x (subst (λ (ys : List X). slice_get ys k ≡ Some x) (sym (take_all i xs le)) at)
