-- Texts among others.
use Rattle.std.proofs.Common.{◌≡◌, ◌⊎◌, ℕ, ◌+◌, ◌<◌, Bool, true, false, Some, List, [], ◌∷◌, ◌++◌, length, take, get_or, refl, sym, ◌∙◌, ap, subst, inl, inr, arith}
use Rattle.std.specs.Borrow.{Bor}
use Rattle.std.specs.Str.{bytes_eq}
use Rattle.std.specs.List.{list_any, slice_get}
use Rattle.std.proofs.lemmas.List.{take_more}
use Rattle.indexmap.specs.IndexSet.{insert_key}
use Rattle.class_keys.proofs.Items.{item_kept, last_item, pushed_item}
use Rattle.class_keys.proofs.Found.{found_in, any_at}
use Rattle.class_names.specs.Spaces.{IsOneOf, HasAdded}
use Rattle.class_names.proofs.Bytes.{same_bytes, bytes_same}

pub one_kept : (found : List (Bor (List ℕ))) (x : Bor (List ℕ)) (name : List ℕ) → IsOneOf found name → IsOneOf (found ++ (x ∷ [])) name
one_kept found x name one = (one.0, one.1, item_kept found (x ∷ []) one.0 one.1 one.2, one.3)

pub one_last : (found : List (Bor (List ℕ))) (x : Bor (List ℕ)) (name : List ℕ) → x.now ≡ name → IsOneOf (found ++ (x ∷ [])) name
one_last found x name is = (length found, x, last_item found x, is)

pub one_pushed : (found : List (Bor (List ℕ))) (x : Bor (List ℕ)) (name : List ℕ) → IsOneOf (found ++ (x ∷ [])) name → IsOneOf found name ⊎ (x.now ≡ name)
one_pushed found x name one = elim (pushed_item found x one.0 one.1 one.2) [
  | inl old ↦ inl (one.0, one.1, old, one.3)
  | inr new ↦ inr (sym (ap (λ (b : Bor (List ℕ)). b.now) new.1) ∙ one.3)
]

-- a text is among the keys of a set exactly where the set says so
pub found_one : (keys : List (Bor (List ℕ))) (name : List ℕ) → list_any (λ (k : Bor (List ℕ)). bytes_eq name k.now) keys ≡ true → IsOneOf keys name
found_one keys name any =
    let f = found_in (λ (k : Bor (List ℕ)). bytes_eq name k.now) keys any in
    (f.index, f.item, f.stands, sym (same_bytes name f.item.now f.passes))

pub one_found : (keys : List (Bor (List ℕ))) (name : List ℕ) → IsOneOf keys name → list_any (λ (k : Bor (List ℕ)). bytes_eq name k.now) keys ≡ true
one_found keys name one = any_at (λ (k : Bor (List ℕ)). bytes_eq name k.now) keys one.0 one.1 one.2 (bytes_same name one.1.now (sym one.3))

abbrev pub equal : Bor (List ℕ) → Bor (List ℕ) → Bool
equal a b = bytes_eq a.now b.now

-- a key is put among the keys of a set
record IsPut (keys new : List (Bor (List ℕ))) (key : Bor (List ℕ)) : Type 0 where
  sound : (name : List ℕ) → IsOneOf new name → IsOneOf keys name ⊎ (key.now ≡ name)
  kept : (name : List ℕ) → IsOneOf keys name → IsOneOf new name
  added : IsOneOf new key.now

put_new : (keys : List (Bor (List ℕ))) (key : Bor (List ℕ)) → IsPut keys (keys ++ (key ∷ [])) key
put_new keys key = record { sound = one_pushed keys key; kept = one_kept keys key; added = one_last keys key key.now refl }

put_old : (keys : List (Bor (List ℕ))) (key : Bor (List ℕ)) → list_any (λ (k : Bor (List ℕ)). bytes_eq key.now k.now) keys ≡ true → IsPut keys keys key
put_old keys key any = record { sound = λ name one. inl one; kept = λ name one. one; added = found_one keys key.now any }

put : (keys : List (Bor (List ℕ))) (key : Bor (List ℕ)) → IsPut keys (insert_key equal keys key) key
put keys key =
    elim (list_any (equal key) keys) as (λ (v : Bool). list_any (equal key) keys ≡ v → IsPut keys (insert_key equal keys key) key) [
      | true ↦ λ any. let same : insert_key equal keys key ≡ keys = rw any refl in subst (λ (ks : List (Bor (List ℕ))). IsPut keys ks key) (sym same) (put_old keys key any)
      | false ↦ λ none. let same : insert_key equal keys key ≡ keys ++ (key ∷ []) = rw none refl in subst (λ (ks : List (Bor (List ℕ))). IsPut keys ks key) (sym same) (put_new keys key)
    ] refl

one_of_more : (found : List (Bor (List ℕ))) (i : ℕ) (key : Bor (List ℕ)) (name : List ℕ) → i < length found → get_or found i key ≡ key → IsOneOf (take (i + 1) found) name → IsOneOf (take i found) name ⊎ (key.now ≡ name)
one_of_more found i key name lt is one =
    one_pushed (take i found) key name (subst (λ (xs : List (Bor (List ℕ))). IsOneOf xs name) (take_more found i key lt ∙ ap (λ (k : Bor (List ℕ)). take i found ++ (k ∷ [])) is) one)

pub adds_one : (old found keys new : List (Bor (List ℕ))) (i : ℕ) (key : Bor (List ℕ)) → i < length found → get_or found i key ≡ key → HasAdded old (take i found) keys → new ≡ insert_key equal keys key → HasAdded old (take (i + 1) found) new
adds_one old found keys new i key lt is has same =
    let p = subst (λ (ks : List (Bor (List ℕ))). IsPut keys ks key) (sym same) (put keys key) in
    let more = take_more found i key lt ∙ ap (λ (k : Bor (List ℕ)). take i found ++ (k ∷ [])) is in
    record {
      sound = λ name one. elim (p.sound name one) [
        | inl was ↦ elim (has.sound name was) [
          | inl o ↦ inl o
          | inr f ↦ inr (subst (λ (xs : List (Bor (List ℕ))). IsOneOf xs name) (sym more) (one_kept (take i found) key name f))
        ]
        | inr e ↦ inr (subst (λ (xs : List (Bor (List ℕ))). IsOneOf xs name) (sym more) (one_last (take i found) key name e))
      ];
      kept = λ name one. p.kept name (has.kept name one);
      added = λ name one. elim (one_of_more found i key name lt is one) [
        | inl f ↦ p.kept name (has.added name f)
        | inr e ↦ subst (λ (n : List ℕ). IsOneOf new n) e p.added
      ];
    }
