-- The namespaces round one, as far as they are found.
use Rattle.std.proofs.Common.{◌≡◌, ◌≢◌, ◌⊎◌, ℕ, ◌+◌, ◌<◌, ◌≤◌, Some, None, List, [], ◌∷◌, ◌++◌, length, take, drop, get_or, refl, sym, ◌∙◌, ap, subst, inl, inr, arith}
use Rattle.std.specs.Borrow.{Bor}
use Rattle.std.specs.List.{slice_get}
use Rattle.std.proofs.lemmas.Bool.{cases_lt}
use Rattle.std.proofs.lemmas.List.{drop_more, take-append-drop, length-append, length-take}
use Rattle.std.proofs.lemmas.Option.{slice_get-get_or, slice_get_within, get_or_from_slice_get}
use Rattle.class_names.proofs.OneOf.{one_kept, one_last, one_pushed}
use Rattle.class_names.specs.Spaces.{IsOneOf, IsPrefix, HasPrefixes, HasAdded}

-- what stands before each dot so far
pub record PrefixesBefore (space : List ℕ) (i : ℕ) (found : List (Bor (List ℕ))) : Type 0 where
  pub sound : (name : List ℕ) → IsOneOf found name → IsPrefix space name
  pub dots : (j : ℕ) → 0 < j → j < i → slice_get space j ≡ Some 46 → IsOneOf found (take j space)

pub no_prefix_yet : (space : List ℕ) (found : List (Bor (List ℕ))) → found ≡ [] → PrefixesBefore space 1 found
no_prefix_yet space found empty = record {
  sound = λ name one. let none : None ≡ Some one.1 = sym (ap (λ (xs : List (Bor (List ℕ))). slice_get xs one.0) empty) ∙ one.2 in absurd cc;
  dots = λ j low high _. absurd (omega (arith, low, high));
}

-- what stands before a dot is the text of a namespace
before_dot : (space : List ℕ) (i : ℕ) → 0 < i → i < length space → get_or space i 0 ≡ 46 → IsPrefix space (take i space)
before_dot space i low lt dot =
    let split : space ≡ take i space ++ (46 ∷ drop (i + 1) space) =
    sym (take-append-drop i space) ∙ ap (λ (xs : List ℕ). take i space ++ xs) (drop_more space i 0 lt) ∙ ap (λ (n : ℕ). take i space ++ (n ∷ drop (i + 1) space)) dot in
    ((λ e. let n = ap length e in let l = length-take {A = ℕ} i space in omega (arith, low, lt, n, l)), inr (drop (i + 1) space, split))

pub with_dot : (space : List ℕ) (i : ℕ) (found new : List (Bor (List ℕ))) (part : Bor (List ℕ)) → 0 < i → i < length space → get_or space i 0 ≡ 46 → part.now ≡ take i space → new ≡ found ++ (part ∷ []) → PrefixesBefore space i found → PrefixesBefore space (i + 1) new
with_dot space i found new part low lt dot is pushed so = subst (λ (xs : List (Bor (List ℕ))). PrefixesBefore space (i + 1) xs) (sym pushed) (record {
  sound = λ name one. elim (one_pushed found part name one) [
    | inl old ↦ so.sound name old
    | inr e ↦ subst (λ (n : List ℕ). IsPrefix space n) (sym is ∙ e) (before_dot space i low lt dot)
  ];
  dots = λ j a b at. elim (cases_lt j i) [
    | inl less ↦ one_kept found part (take j space) (so.dots j a less at)
    | inr le ↦ let e : i ≡ j = omega (arith, b, le) in one_last found part (take j space) (is ∙ ap (λ (k : ℕ). take k space) e)
  ];
})

pub without_dot : (space : List ℕ) (i : ℕ) (found : List (Bor (List ℕ))) → i < length space → (get_or space i 0 ≡ 46 → ⊥) → PrefixesBefore space i found → PrefixesBefore space (i + 1) found
without_dot space i found lt apart so = record {
  sound = so.sound;
  dots = λ j a b at. elim (cases_lt j i) [
    | inl less ↦ so.dots j a less at
    | inr le ↦ let e : i ≡ j = omega (arith, b, le) in absurd (apart (ap (λ (k : ℕ). get_or space k 0) e ∙ get_or_from_slice_get space j 46 0 at))
  ];
}

-- a dot behind a name
dot_behind : (name inner : List ℕ) → slice_get (name ++ (46 ∷ inner)) (length name) ≡ Some 46
dot_behind [] inner = refl
dot_behind (n ∷ name) inner = dot_behind name inner

name_before : (name inner : List ℕ) → take (length name) (name ++ (46 ∷ inner)) ≡ name
name_before [] inner = refl
name_before (n ∷ name) inner = ap (λ (xs : List ℕ). n ∷ xs) (name_before name inner)

some_letters : (name : List ℕ) → name ≢ [] → 0 < length name
some_letters [] some = absurd (some refl)
some_letters (n ∷ name) some = omega arith

at_dot : (space name inner : List ℕ) (i : ℕ) (found : List (Bor (List ℕ))) → name ≢ [] → space ≡ name ++ (46 ∷ inner) → length space ≤ i → PrefixesBefore space i found → IsOneOf found name
at_dot space name inner i found some split all so =
    let at : slice_get space (length name) ≡ Some 46 = ap (λ (xs : List ℕ). slice_get xs (length name)) split ∙ dot_behind name inner in
    let lt = slice_get_within space (length name) 46 at in
    subst (λ (n : List ℕ). IsOneOf found n) (ap (λ (xs : List ℕ). take (length name) xs) split ∙ name_before name inner) (so.dots (length name) (some_letters name some) (omega (arith, lt, all)) at)

pub all_prefixes : (space : List ℕ) (i : ℕ) (found new : List (Bor (List ℕ))) (whole : Bor (List ℕ)) → space ≢ [] → length space ≤ i → whole.now ≡ space → new ≡ found ++ (whole ∷ []) → PrefixesBefore space i found → HasPrefixes space new
all_prefixes space i found new whole some all is pushed so = subst (λ (xs : List (Bor (List ℕ))). HasPrefixes space xs) (sym pushed) (record {
  sound = λ name one. elim (one_pushed found whole name one) [
    | inl old ↦ so.sound name old
    | inr e ↦ let same : space ≡ name = sym is ∙ e in ((λ empty. some (same ∙ empty)), inl same)
  ];
  complete = λ name prefix. elim prefix.1 [
    | inl same ↦ one_last found whole name (is ∙ same)
    | inr split ↦ one_kept found whole name (at_dot space name split.0 i found prefix.0 split.1 all so)
  ];
})

pub no_prefixes : (space : List ℕ) (found : List (Bor (List ℕ))) → space ≡ [] → found ≡ [] → HasPrefixes space found
no_prefixes space found none empty = record {
  sound = (no_prefix_yet space found empty).sound;
  complete = λ name prefix. elim prefix.1 [
    | inl same ↦ absurd (prefix.0 (sym same ∙ none))
    | inr split ↦
        let e : [] ≡ name ++ (46 ∷ split.0) = sym none ∙ split.1 in
        let n = ap length e ∙ length-append name (46 ∷ split.0) in
        absurd (omega (arith, n))
  ];
}
