-- What a list keeps of another.
use Rattle.std.proofs.Common.{◌≡◌, ◌∙◌, ◌⊎◌, List, [], ◌∷◌, inl, inr, sym, ap, subst, arith, Option, Some, None, Contains}
use Rattle.std.specs.List.{filter_map, cons_option}
use Rattle.std.proofs.lemmas.List.Elements.{Contains-push, Contains-push_cases, Contains-append_left, Contains-append_right, Contains-append_cases}

pub none_in_empty : {X : Type 0} (x : X) → Contains [] x → ⊥
none_in_empty x h = let lt = h.1 in omega (arith, lt)

cons_cases : {X : Type 0} (z : X) (xs : List X) (x : X) → Contains (z ∷ xs) x → (z ≡ x) ⊎ Contains xs x
cons_cases z xs x h = elim (Contains-append_cases (z ∷ []) xs x h) [
  | inl one ↦ elim (Contains-push_cases [] z x one) [ inl none ↦ absurd (none_in_empty x none) | inr same ↦ inl same ]
  | inr old ↦ inr old
]

cons_here : {X : Type 0} (x : X) (xs : List X) → Contains (x ∷ xs) x
cons_here x xs = Contains-append_left (x ∷ []) xs x (Contains-push [] x)

skip : {Y : Type 0} (o : Option Y) (ys : List Y) (y : Y) → Contains ys y → Contains (cons_option o ys) y
skip None ys y h = h
skip (Some z) ys y h = Contains-append_right (z ∷ []) ys y h

pub kept : {X Y : Type 0} (f : X → Option Y) (xs : List X) (x : X) (y : Y) → Contains xs x → f x ≡ Some y → Contains (filter_map f xs) y
kept f [] x y h is = absurd (none_in_empty x h)
kept {X} {Y} f (z ∷ xs) x y h is = elim (cons_cases z xs x h) [
  | inl same ↦ subst (λ (o : Option Y). Contains (cons_option o (filter_map f xs)) y) (sym (ap f same ∙ is)) (cons_here y (filter_map f xs))
  | inr old ↦ skip (f z) (filter_map f xs) y (kept f xs x y old is)
]

split : {Y : Type 0} (o : Option Y) (ys : List Y) (y : Y) → Contains (cons_option o ys) y → (o ≡ Some y) ⊎ Contains ys y
split None ys y h = inr h
split (Some z) ys y h = elim (cons_cases z ys y h) [ inl same ↦ inl (ap (λ v. Some v) same) | inr old ↦ inr old ]

pub record IsFrom {X Y : Type 0} (f : X → Option Y) (xs : List X) (y : Y) : Type 0 where
  pub x : X
  pub there : Contains xs x
  pub is : f x ≡ Some y

pub from_some : {X Y : Type 0} (f : X → Option Y) (xs : List X) (y : Y) → Contains (filter_map f xs) y → IsFrom f xs y
from_some f [] y h = absurd (none_in_empty y h)
from_some f (z ∷ xs) y h = elim (split (f z) (filter_map f xs) y h) [
  | inl here ↦ record { x = z; there = cons_here z xs; is = here }
  | inr old ↦
      let found = from_some f xs y old in
      record { x = found.x; there = Contains-append_right (z ∷ []) xs found.x found.there; is = found.is }
]
