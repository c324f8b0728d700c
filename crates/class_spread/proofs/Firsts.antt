-- Numbers that are added one by one are those that occur first.
use Rattle.std.proofs.Common.{◌≡◌, ℕ, Bool, true, false, cond, not, ◌||◌, List, [], ◌∷◌, ◌++◌, nat_eq, sym, refl, ap, subst, ◌∙◌, append_assoc, append-nil as append_nil}
use Rattle.std.proofs.lemmas.Bool.{eqb-true, eq-eqb}
use Rattle.std.proofs.lemmas.List.Folds.{list_any-append}
use Rattle.std.specs.List.{list_any, filter}
use Rattle.std.specs.Bool.{◌==◌}
use Rattle.indexmap.specs.IndexSet.{insert_key}
use Rattle.class_rows.specs.Lookups.{firsts}
use Rattle.class_spread.specs.Filled.{added}

-- whether a number is one of these
abbrev pub has : ℕ → List ℕ → Bool
has x xs = list_any (nat_eq x) xs

abbrev differs : ℕ → ℕ → Bool
differs x y = not (y == x)

pub added-append : (ks xs ys : List ℕ) → added ks (xs ++ ys) ≡ added (added ks xs) ys
added-append ks [] ys = refl
added-append ks (x ∷ xs) ys = added-append (insert_key nat_eq ks x) xs ys

insert_there : (ks : List ℕ) (x : ℕ) → has x ks ≡ true → insert_key nat_eq ks x ≡ ks
insert_there ks x h = rw h refl

insert_has : (ks : List ℕ) (x : ℕ) → has x (insert_key nat_eq ks x) ≡ true
insert_has ks x =
    elim (has x ks) as (λ b. has x ks ≡ b → has x (cond b ks (ks ++ (x ∷ []))) ≡ true) [
      | true ↦ λ e. e
      | false ↦ λ e. list_any-append (nat_eq x) ks (x ∷ []) ∙ (let y : nat_eq x x ≡ true = eq-eqb x x refl in rw (e, y) refl)
    ] refl

insert_keeps : (ks : List ℕ) (x y : ℕ) → has x ks ≡ true → has x (insert_key nat_eq ks y) ≡ true
insert_keeps ks x y h =
    elim (has y ks) as (λ b. has x (cond b ks (ks ++ (y ∷ []))) ≡ true) [
      | true ↦ h
      | false ↦ list_any-append (nat_eq x) ks (y ∷ []) ∙ rw h refl
    ]

skip : (ks l : List ℕ) (x : ℕ) → has x ks ≡ true → added ks (filter (differs x) l) ≡ added ks l
skip ks [] x h = refl
skip ks (y ∷ ys) x h =
    elim (y == x) as (λ b. (y == x) ≡ b → added ks (cond (not b) (y ∷ filter (differs x) ys) (filter (differs x) ys)) ≡ added (insert_key nat_eq ks y) ys) [
      | true ↦ λ e. let same : y ≡ x = eqb-true y x e in
          let there : has y ks ≡ true = subst (λ (n : ℕ). has n ks ≡ true) (sym same) h in
          skip ks ys x h ∙ ap (λ (k : List ℕ). added k ys) (sym (insert_there ks y there))
      | false ↦ λ e. skip (insert_key nat_eq ks y) ys x (insert_keeps ks x y h)
    ] refl

pub added_firsts : (ks xs : List ℕ) → added ks (firsts xs) ≡ added ks xs
added_firsts ks [] = refl
added_firsts ks (x ∷ xs) = skip (insert_key nat_eq ks x) (firsts xs) x (insert_has ks x) ∙ added_firsts (insert_key nat_eq ks x) xs

-- those that aren't among the keys
abbrev out : List ℕ → ℕ → Bool
out ks y = not (has y ks)

out_skips : (ks l : List ℕ) (x : ℕ) → has x ks ≡ true → filter (out ks) (filter (differs x) l) ≡ filter (out ks) l
out_skips ks [] x h = refl
out_skips ks (y ∷ ys) x h =
    elim (y == x) as (λ b. (y == x) ≡ b → filter (out ks) (cond (not b) (y ∷ filter (differs x) ys) (filter (differs x) ys)) ≡ filter (out ks) (y ∷ ys)) [
      | true ↦ λ e. let same : y ≡ x = eqb-true y x e in
          let there : has y ks ≡ true = subst (λ (n : ℕ). has n ks ≡ true) (sym same) h in
          out_skips ks ys x h ∙ sym (rw there refl)
      | false ↦ λ e. elim (has y ks) as (λ b. cond (not b) (y ∷ filter (out ks) (filter (differs x) ys)) (filter (out ks) (filter (differs x) ys)) ≡ cond (not b) (y ∷ filter (out ks) ys) (filter (out ks) ys)) [
        | true ↦ out_skips ks ys x h
        | false ↦ ap (λ zs. y ∷ zs) (out_skips ks ys x h)
      ]
    ] refl

or_false : (a b c : Bool) → b ≡ c → (a || (b || false)) ≡ (a || c)
or_false true b c e = refl
or_false false true c e = e
or_false false false c e = e

out_more : (ks l : List ℕ) (x : ℕ) → filter (out (ks ++ (x ∷ []))) l ≡ filter (out ks) (filter (differs x) l)
out_more ks [] x = refl
out_more ks (y ∷ ys) x =
    let more : has y (ks ++ (x ∷ [])) ≡ (has y ks || (y == x)) = list_any-append (nat_eq y) ks (x ∷ []) ∙ or_false (has y ks) (nat_eq y x) (y == x) refl in
    let P : Bool → Type 0 = λ b. cond (not b) (y ∷ filter (out (ks ++ (x ∷ []))) ys) (filter (out (ks ++ (x ∷ []))) ys) ≡ filter (out ks) (cond (not (y == x)) (y ∷ filter (differs x) ys) (filter (differs x) ys)) in
    subst P (sym more)
    (elim (y == x) as (λ b. cond (not (has y ks || b)) (y ∷ filter (out (ks ++ (x ∷ []))) ys) (filter (out (ks ++ (x ∷ []))) ys) ≡ filter (out ks) (cond (not b) (y ∷ filter (differs x) ys) (filter (differs x) ys))) [
      | true ↦ elim (has y ks) as (λ c. cond (not (c || true)) (y ∷ filter (out (ks ++ (x ∷ []))) ys) (filter (out (ks ++ (x ∷ []))) ys) ≡ filter (out ks) (filter (differs x) ys)) [
        | true ↦ out_more ks ys x
        | false ↦ out_more ks ys x
      ]
      | false ↦ elim (has y ks) as (λ c. cond (not (c || false)) (y ∷ filter (out (ks ++ (x ∷ []))) ys) (filter (out (ks ++ (x ∷ []))) ys) ≡ cond (not c) (y ∷ filter (out ks) (filter (differs x) ys)) (filter (out ks) (filter (differs x) ys))) [
        | true ↦ out_more ks ys x
        | false ↦ ap (λ zs. y ∷ zs) (out_more ks ys x)
      ]
    ])

added_are : (ks xs : List ℕ) → added ks xs ≡ ks ++ filter (out ks) (firsts xs)
added_are ks [] = sym (append_nil ks)
added_are ks (x ∷ xs) =
    elim (has x ks) as (λ b. has x ks ≡ b → added (cond b ks (ks ++ (x ∷ []))) xs ≡ ks ++ cond (not b) (x ∷ filter (out ks) (filter (differs x) (firsts xs))) (filter (out ks) (filter (differs x) (firsts xs)))) [
      | true ↦ λ e. added_are ks xs ∙ ap (λ zs. ks ++ zs) (sym (out_skips ks (firsts xs) x e))
      | false ↦ λ e. added_are (ks ++ (x ∷ [])) xs ∙ append_assoc ks (x ∷ []) _ ∙ ap (λ zs. ks ++ (x ∷ zs)) (out_more ks (firsts xs) x)
    ] refl

all_out : (l : List ℕ) → filter (out []) l ≡ l
all_out [] = refl
all_out (x ∷ xs) = ap (λ zs. x ∷ zs) (all_out xs)

pub added_all : (xs : List ℕ) → added [] xs ≡ firsts xs
added_all xs = added_are [] xs ∙ all_out (firsts xs)

-- a number is among those that occur first where it occurs
has_filter : (x y : ℕ) (l : List ℕ) → nat_eq y x ≡ false → has y (filter (differs x) l) ≡ has y l
has_filter x y [] apart = refl
has_filter x y (z ∷ zs) apart =
    elim (z == x) as (λ b. (z == x) ≡ b → has y (cond (not b) (z ∷ filter (differs x) zs) (filter (differs x) zs)) ≡ has y (z ∷ zs)) [
      | true ↦ λ e. let same : z ≡ x = eqb-true z x e in
          let no_ : nat_eq y z ≡ false = subst (λ (n : ℕ). nat_eq y n ≡ false) (sym same) apart in
          has_filter x y zs apart ∙ sym (rw no_ refl)
      | false ↦ λ e. ap (λ b. nat_eq y z || b) (has_filter x y zs apart)
    ] refl

pub has_firsts : (y : ℕ) (xs : List ℕ) → has y (firsts xs) ≡ has y xs
has_firsts y [] = refl
has_firsts y (x ∷ xs) =
    elim (nat_eq y x) as (λ b. nat_eq y x ≡ b → (b || has y (filter (differs x) (firsts xs))) ≡ (b || has y xs)) [
      | true ↦ λ e. refl
      | false ↦ λ e. has_filter x y (firsts xs) e ∙ has_firsts y xs
    ] refl
