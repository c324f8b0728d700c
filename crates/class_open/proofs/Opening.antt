-- The members of a type are opened one by one.
use Rattle.std.proofs.Common.{◌≡◌, ◌⊎◌, ℕ, ◌+◌, ◌<◌, ◌≤◌, Bool, true, Some, List, [], ◌∷◌, ◌++◌, length, inl, inr, sym, refl, ap, subst, ◌∙◌, arith}
use Rattle.std.proofs.lemmas.Bool.{cases_lt}
use Rattle.std.proofs.lemmas.Option.{slice_get_within, slice_get-get_or, get_or_from_slice_get}
use Rattle.std.specs.List.{slice_get, Contains}
use Rattle.class_keys.proofs.Items.{one_item}
use Rattle.class_index.specs.Index.{AreApart}
use Rattle.class_open.specs.Trail.{Has}
use Rattle.class_open.specs.Stacks.{IsOneMore, AreMore}

-- one of the first so many
abbrev pub IsAmong : List ℕ → ℕ → ℕ → Type 0
IsAmong own k m = (j : ℕ) × (j < k) × (slice_get own j ≡ Some m)

pub record AreOpening (picks : List Bool) (own : List ℕ) (k : ℕ) (before trail : List ℕ) : Type 0 where
  pub mine : List ℕ
  pub whole : trail ≡ mine ++ before
  pub in_ : (m : ℕ) → Has mine m → IsAmong own k m × (slice_get picks m ≡ Some true)
  pub out : (m : ℕ) → IsAmong own k m → slice_get picks m ≡ Some true → Has mine m

pub opening_begins : (picks : List Bool) (own before : List ℕ) → AreOpening picks own 0 before before
opening_begins picks own before = record { mine = []; whole = refl; in_ = λ m h. absurd h; out = λ m among p. absurd (omega (arith, among.1)) }

has_split : (xs ys : List ℕ) (m : ℕ) → Has (xs ++ ys) m → Has xs m ⊎ Has ys m
has_split [] ys m h = inr h
has_split (x ∷ xs) ys m (inl e) = inl (inl e)
has_split (x ∷ xs) ys m (inr h) = elim (has_split xs ys m h) [
  | inl a ↦ inl (inr a)
  | inr b ↦ inr b
]

-- the next one isn't open yet
pub is_fresh : (picks : List Bool) (own before trail : List ℕ) (k m : ℕ) → AreApart own → ((n : ℕ) → Contains own n → Has before n → ⊥) → slice_get own k ≡ Some m → AreOpening picks own k before trail → Has trail m → ⊥
is_fresh picks own before trail k m apart fresh at are has = elim (has_split are.mine before m (subst (λ (l : List ℕ). Has l m) are.whole has)) [
  | inl mine ↦
      let among = (are.in_ m mine).0 in
      let same = apart among.0 k m among.2 at in
      absurd (omega (arith, same, among.1))
  | inr old ↦ fresh m (k, slice_get_within own k m at, get_or_from_slice_get own k m m at) old
]

among_more : (own : List ℕ) (k m n : ℕ) → slice_get own k ≡ Some m → IsAmong own (k + 1) n → IsAmong own k n ⊎ (m ≡ n)
among_more own k m n at among = elim (cases_lt among.0 k) [
  | inl lt ↦ inl (among.0, lt, among.2)
  | inr ge ↦ inr (let lt = among.1 in let same : among.0 ≡ k = omega (arith, ge, lt) in one_item own k m n at (ap (λ (j : ℕ). slice_get own j) (sym same) ∙ among.2))
]

among_kept : (own : List ℕ) (k n : ℕ) → IsAmong own k n → IsAmong own (k + 1) n
among_kept own k n among = let lt = among.1 in (among.0, omega (arith, lt), among.2)

pub opening_more : (picks : List Bool) (own before trail after : List ℕ) (k m : ℕ) → slice_get own k ≡ Some m → AreOpening picks own k before trail → IsOneMore picks m trail after → AreOpening picks own (k + 1) before after
opening_more picks own before trail after k m at are (inl one) = record {
  mine = m ∷ are.mine;
  whole = one.1 ∙ ap (λ (l : List ℕ). m ∷ l) are.whole;
  in_ = λ n has. elim has [
    | inl e ↦ subst (λ (i : ℕ). IsAmong own (k + 1) i × (slice_get picks i ≡ Some true)) e ((k, omega arith, at), one.0)
    | inr h ↦ let was = are.in_ n h in (among_kept own k n was.0, was.1)
  ];
  out = λ n among picked. elim (among_more own k m n at among) [
    | inl was ↦ inr (are.out n was picked)
    | inr e ↦ inl e
  ];
}
opening_more picks own before trail after k m at are (inr none) = record {
  mine = are.mine;
  whole = none.1 ∙ are.whole;
  in_ = λ n h. let was = are.in_ n h in (among_kept own k n was.0, was.1);
  out = λ n among picked. elim (among_more own k m n at among) [
    | inl was ↦ are.out n was picked
    | inr e ↦ absurd (none.0 (subst (λ (i : ℕ). slice_get picks i ≡ Some true) (sym e) picked))
  ];
}

pub opening_ends : (picks : List Bool) (own before trail : List ℕ) (k : ℕ) → length own ≤ k → AreOpening picks own k before trail → AreMore picks own before trail
opening_ends picks own before trail k le are = (
  are.mine,
  are.whole,
  λ m. (
    (λ has. let was = are.in_ m has in ((was.0.0, slice_get_within own was.0.0 m was.0.2, get_or_from_slice_get own was.0.0 m m was.0.2), was.1)),
    (λ both. let lt = both.0.1 in are.out m (both.0.0, omega (arith, lt, le), slice_get-get_or own both.0.0 m lt ∙ ap Some both.0.2) both.1),
  ),
)
