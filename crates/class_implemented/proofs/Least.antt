-- The least number so far, on a walk that has some numbers still to come.
use Rattle.std.proofs.Common.{◌≡◌, ◌⊎◌, ℕ, ◌+◌, ◌≤◌, Option, Some, None, List, length, min, inl, inr, sym, refl, ap, subst, ◌∙◌, arith}
use Rattle.std.specs.List.{slice_get}
use Rattle.std.proofs.lemmas.Bool.{cases_lt}
use Rattle.std.proofs.lemmas.Option.{slice_get_within}
use Rattle.class_keys.specs.Least.{IsLeastOf, lesser_of}
use Rattle.class_keys.proofs.Items.{one_item}

-- the least number so far is at most this one
abbrev pub IsUpto : Option ℕ → ℕ → Type 0
IsUpto None m = ⊥
IsUpto (Some n) m = n ≤ m

-- what is told so far is right, and each number that is wanted is passed or still to come
pub record IsSoFar (Wanted Rest : ℕ → Type 0) (least : Option ℕ) : Type 0 where
  pub sound : (m : ℕ) → least ≡ Some m → Wanted m
  pub passed : (m : ℕ) → Wanted m → IsUpto least m ⊎ Rest m

pub so_far_begins : (Wanted Rest : ℕ → Type 0) → ((m : ℕ) → Wanted m → Rest m) → IsSoFar Wanted Rest None
so_far_begins Wanted Rest all = record { sound = λ m e. let none : None ≡ Some m = e in absurd cc; passed = λ m w. inr (all m w) }

upto_left : (a b : Option ℕ) (m : ℕ) → IsUpto a m → IsUpto (lesser_of a b) m
upto_left None b m h = absurd h
upto_left (Some a) None m h = h
upto_left (Some a) (Some b) m h = let le : a ≤ m = h in let k : min a b ≤ m = omega (arith, le) in k

upto_right : (a b : Option ℕ) (m : ℕ) → IsUpto b m → IsUpto (lesser_of a b) m
upto_right None b m h = h
upto_right (Some a) None m h = absurd h
upto_right (Some a) (Some b) m h = let le : b ≤ m = h in let k : min a b ≤ m = omega (arith, le) in k

min_is : (a b m : ℕ) → min a b ≡ m → (a ≡ m) ⊎ (b ≡ m)
min_is a b m e = elim (cases_lt b a) [
  | inl lt ↦ inr (omega (arith, e, lt))
  | inr le ↦ inl (omega (arith, e, le))
]

lesser_is : (a b : Option ℕ) (m : ℕ) → lesser_of a b ≡ Some m → (a ≡ Some m) ⊎ (b ≡ Some m)
lesser_is None b m e = inr e
lesser_is (Some a) None m e = inl e
lesser_is (Some a) (Some b) m e =
    let k : min a b ≡ m = cc in
    elim (min_is a b m k) [ inl one ↦ inl (ap Some one) | inr other ↦ inr (ap Some other) ]

least_sound : (Q : ℕ → Type 0) (o : Option ℕ) (m : ℕ) → IsLeastOf Q o → o ≡ Some m → Q m
least_sound Q None m first e = let none : None ≡ Some m = e in absurd cc
least_sound Q (Some n) m first e = let k : n ≡ m = cc in subst Q k first.holds

least_upto : (Q : ℕ → Type 0) (o : Option ℕ) (m : ℕ) → IsLeastOf Q o → Q m → IsUpto o m
least_upto Q None m first q = first m q
least_upto Q (Some n) m first q = elim (cases_lt m n) [
  | inl lt ↦ absurd (first.least m lt q)
  | inr le ↦ le
]

-- one more part of what is still to come is passed
pub so_far_more : (Wanted Q Rest Left : ℕ → Type 0) (least o : Option ℕ) → IsSoFar Wanted Rest least → IsLeastOf Q o → ((m : ℕ) → Q m → Wanted m) → ((m : ℕ) → Rest m → Q m ⊎ Left m) → IsSoFar Wanted Left (lesser_of least o)
so_far_more Wanted Q Rest Left least o so first to split = record {
  sound = λ m e. elim (lesser_is least o m e) [
    | inl old ↦ so.sound m old
    | inr new_ ↦ to m (least_sound Q o m first new_)
  ];
  passed = λ m w. elim (so.passed m w) [
    | inl done ↦ inl (upto_left least o m done)
    | inr r ↦ elim (split m r) [
      | inl q ↦ inl (upto_right least o m (least_upto Q o m first q))
      | inr on ↦ inr on
    ]
  ];
}

pub so_far_ends : (Wanted Rest : ℕ → Type 0) (least : Option ℕ) → IsSoFar Wanted Rest least → ((m : ℕ) → Rest m → ⊥) → IsLeastOf Wanted least
so_far_ends Wanted Rest None so none = λ m w. elim (so.passed m w) [
  | inl done ↦ done
  | inr r ↦ none m r
]
so_far_ends Wanted Rest (Some n) so none = record {
  holds = so.sound n refl;
  least = λ m lt w. elim (so.passed m w) [
    | inl done ↦ let le : n ≤ m = done in absurd (omega (arith, lt, le))
    | inr r ↦ none m r
  ];
}

-- an item from an index on has the number
abbrev pub IsFrom : (ℕ → ℕ → Type 0) → List ℕ → ℕ → ℕ → Type 0
IsFrom Q xs k m = (j : ℕ) × (k ≤ j) × (x : ℕ) × (slice_get xs j ≡ Some x) × Q x m

pub from_next : (Q : ℕ → ℕ → Type 0) (xs : List ℕ) (k x m : ℕ) → slice_get xs k ≡ Some x → IsFrom Q xs k m → Q x m ⊎ IsFrom Q xs (k + 1) m
from_next Q xs k x m at f = elim (cases_lt k f.0) [
  | inl lt ↦ inr (f.0, omega (arith, lt), f.2, f.3, f.4)
  | inr le ↦
      let same : f.0 ≡ k = omega (arith, le, f.1) in
      inl (subst (λ (n : ℕ). Q n m) (one_item xs k f.2 x (ap (λ (j : ℕ). slice_get xs j) (sym same) ∙ f.3) at) f.4)
]

pub from_end : (Q : ℕ → ℕ → Type 0) (xs : List ℕ) (k m : ℕ) → length xs ≤ k → IsFrom Q xs k m → ⊥
from_end Q xs k m all f = let lt = slice_get_within xs f.0 f.2 f.3 in omega (arith, lt, all, f.1)
