-- The names of the nested types among the first so many.
use Rattle.std.proofs.Common.{◌≡◌, ◌⊎◌, ℕ, ◌+◌, ◌<◌, ◌≤◌, Bool, true, false, Option, Some, None, List, [], ◌∷◌, ◌++◌, length, refl, sym, ◌∙◌, ap, subst, inl, inr, arith}
use Rattle.std.specs.List.{slice_get, list_any}
use Rattle.std.proofs.lemmas.Bool.{cases_lt}
use Rattle.std.proofs.lemmas.Option.{slice_get_within}
use Rattle.indexmap.specs.IndexSet.{insert_key}
use Rattle.dc_base.specs.declared.names.TypeId.{TypeId}
use Rattle.class_rows.specs.declared.row.TypeRow.{TypeRow}
use Rattle.class_keys.proofs.Items.{one_item, item_kept, last_item, pushed_item}
use Rattle.class_keys.proofs.Found.{found_in, any_at}
use Rattle.class_members.specs.declared.nested.NameIn.{NameIn}
use Rattle.class_members.specs.Nested.{IsListed, HasInner, HasNested}

pub record NestedBefore (types : List TypeRow) (i : ℕ) (keys : List NameIn) : Type 0 where
  pub sound : (outer : ℕ) (name : List ℕ) → IsListed keys outer name → HasInner types outer name
  pub complete : (t outer : ℕ) (row : TypeRow) → t < i → slice_get types t ≡ Some row → row.outer ≡ Some (record { 0 = outer }) → IsListed keys outer row.name

-- when two keys are equal
pub record Tells (eq : NameIn → NameIn → Bool) : Type 0 where
  pub same : (a b : NameIn) → eq a b ≡ true → (a.outer ≡ b.outer) × (a.name.now ≡ b.name.now)
  pub back : (a b : NameIn) → a.outer ≡ b.outer → a.name.now ≡ b.name.now → eq a b ≡ true

pub found_listed : (eq : NameIn → NameIn → Bool) → Tells eq → (keys : List NameIn) (key : NameIn) → list_any (eq key) keys ≡ true → IsListed keys key.outer key.name.now
found_listed eq tells keys key any =
    let f = found_in (eq key) keys any in
    let e = tells.same key f.item f.passes in
    (f.index, f.item, f.stands, sym e.0, sym e.1)

pub listed_found : (eq : NameIn → NameIn → Bool) → Tells eq → (keys : List NameIn) (key : NameIn) → IsListed keys key.outer key.name.now → list_any (eq key) keys ≡ true
listed_found eq tells keys key one = any_at (eq key) keys one.0 one.1 one.2 (tells.back key one.1 (sym one.3) (sym one.4))

-- a key is put among others
record IsPut (keys new : List NameIn) (key : NameIn) : Type 0 where
  sound : (outer : ℕ) (name : List ℕ) → IsListed new outer name → IsListed keys outer name ⊎ ((key.outer ≡ outer) × (key.name.now ≡ name))
  kept : (outer : ℕ) (name : List ℕ) → IsListed keys outer name → IsListed new outer name
  added : IsListed new key.outer key.name.now

put_new : (keys : List NameIn) (key : NameIn) → IsPut keys (keys ++ (key ∷ [])) key
put_new keys key = record {
  sound = λ outer name one. elim (pushed_item keys key one.0 one.1 one.2) [
    | inl old ↦ inl (one.0, one.1, old, one.3, one.4)
    | inr new ↦ inr (sym (ap (λ (k : NameIn). k.outer) new.1) ∙ one.3, sym (ap (λ (k : NameIn). k.name.now) new.1) ∙ one.4)
  ];
  kept = λ outer name one. (one.0, one.1, item_kept keys (key ∷ []) one.0 one.1 one.2, one.3, one.4);
  added = (length keys, key, last_item keys key, refl, refl);
}

put_old : (eq : NameIn → NameIn → Bool) → Tells eq → (keys : List NameIn) (key : NameIn) → list_any (eq key) keys ≡ true → IsPut keys keys key
put_old eq tells keys key any = record { sound = λ outer name one. inl one; kept = λ outer name one. one; added = found_listed eq tells keys key any }

put : (eq : NameIn → NameIn → Bool) → Tells eq → (keys : List NameIn) (key : NameIn) → IsPut keys (insert_key eq keys key) key
put eq tells keys key =
    elim (list_any (eq key) keys) as (λ (v : Bool). list_any (eq key) keys ≡ v → IsPut keys (insert_key eq keys key) key) [
      | true ↦ λ any. let same : insert_key eq keys key ≡ keys = rw any refl in subst (λ (ks : List NameIn). IsPut keys ks key) (sym same) (put_old eq tells keys key any)
      | false ↦ λ none. let same : insert_key eq keys key ≡ keys ++ (key ∷ []) = rw none refl in subst (λ (ks : List NameIn). IsPut keys ks key) (sym same) (put_new keys key)
    ] refl

pub none_nested_yet : (types : List TypeRow) (keys : List NameIn) → keys ≡ [] → NestedBefore types 0 keys
none_nested_yet types keys empty = record {
  sound = λ outer name one. let none : None ≡ Some one.1 = sym (ap (λ (ks : List NameIn). slice_get ks one.0) empty) ∙ one.2 in absurd cc;
  complete = λ t outer row lt _ _. absurd (omega (arith, lt));
}

number_in : Option TypeId → ℕ
number_in None = 0
number_in (Some t) = t.0

same_outer : (a b : Option TypeId) (m n : ℕ) → a ≡ b → a ≡ Some (record { 0 = m }) → b ≡ Some (record { 0 = n }) → m ≡ n
unfolding number_in
same_outer a b m n e p q = ap number_in (sym p ∙ e ∙ q)

pub with_nested : (eq : NameIn → NameIn → Bool) → Tells eq → (types : List TypeRow) (i outer : ℕ) (row : TypeRow) (keys new : List NameIn) (key : NameIn) → slice_get types i ≡ Some row → row.outer ≡ Some (record { 0 = outer }) → key.outer ≡ outer → key.name.now ≡ row.name → new ≡ insert_key eq keys key → NestedBefore types i keys → NestedBefore types (i + 1) new
with_nested eq tells types i outer row keys new key stands is out text same so =
    let p = subst (λ (ks : List NameIn). IsPut keys ks key) (sym same) (put eq tells keys key) in
    record {
      sound = λ o name one. elim (p.sound o name one) [
        | inl old ↦ so.sound o name old
        | inr here ↦
            let at : outer ≡ o = sym out ∙ here.0 in
            (i, record { row = row; stands = stands; is = is ∙ ap (λ (n : ℕ). let id : TypeId = record { 0 = n } in Some id) at }, record { row = row; stands = stands; is = sym text ∙ here.1 })
      ];
      complete = λ t o other lt at names. elim (cases_lt t i) [
        | inl less ↦ p.kept o other.name (so.complete t o other less at names)
        | inr le ↦
            let e : t ≡ i = omega (arith, lt, le) in
            let one = one_item types i other row (ap (λ (k : ℕ). slice_get types k) (sym e) ∙ at) stands in
            let o_same : outer ≡ o = same_outer row.outer other.outer outer o (sym (ap (λ (r : TypeRow). r.outer) one)) is names in
            let n_same : key.name.now ≡ other.name = text ∙ sym (ap (λ (r : TypeRow). r.name) one) in
            subst (λ (n : List ℕ). IsListed new o n) n_same (subst (λ (k : ℕ). IsListed new k key.name.now) (out ∙ o_same) p.added)
      ];
    }

pub without_nested : (types : List TypeRow) (i : ℕ) (row : TypeRow) (keys : List NameIn) → slice_get types i ≡ Some row → row.outer ≡ None → NestedBefore types i keys → NestedBefore types (i + 1) keys
without_nested types i row keys stands none so = record {
  sound = so.sound;
  complete = λ t o other lt at names. elim (cases_lt t i) [
    | inl less ↦ so.complete t o other less at names
    | inr le ↦
        let e : t ≡ i = omega (arith, lt, le) in
        let one = one_item types i other row (ap (λ (k : ℕ). slice_get types k) (sym e) ∙ at) stands in
        let k = sym names ∙ ap (λ (r : TypeRow). r.outer) one ∙ none in
        absurd cc
  ];
}

pub all_nested : (types : List TypeRow) (i : ℕ) (keys : List NameIn) → length types ≤ i → NestedBefore types i keys → HasNested types keys
all_nested types i keys all so = record {
  sound = so.sound;
  complete = λ outer name has.
      let lt = slice_get_within types has.0 has.1.row has.1.stands in
      let one = one_item types has.0 has.1.row has.2.row has.1.stands has.2.stands in
      subst (λ (n : List ℕ). IsListed keys outer n) (ap (λ (r : TypeRow). r.name) one ∙ has.2.is) (so.complete has.0 outer has.1.row (omega (arith, lt, all)) has.1.stands has.1.is);
}
