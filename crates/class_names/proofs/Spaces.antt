-- The namespaces of the first so many types.
use Rattle.std.proofs.Common.{◌≡◌, ◌≢◌, ◌⊎◌, ℕ, ◌+◌, ◌<◌, ◌≤◌, Some, None, List, [], ◌∷◌, ◌++◌, length, take, get_or, refl, sym, ◌∙◌, ap, subst, inl, inr, arith}
use Rattle.std.specs.Prelude.{false}
use Rattle.std.specs.Borrow.{Bor}
use Rattle.std.specs.List.{slice_get}
use Rattle.class_rows.specs.declared.row.TypeRow.{TypeRow}
use Rattle.class_rows.specs.Types.{HasType}
use Rattle.class_rows.specs.Names.{IsNamespace}
use Rattle.std.proofs.lemmas.Bool.{cases_lt}
use Rattle.std.proofs.lemmas.Option.{slice_get_within}
use Rattle.class_keys.proofs.Items.{one_item}
use Rattle.class_names.specs.Spaces.{IsOneOf, IsPrefix, HasPrefixes, HasAdded, HasSpaces}

pub record SpacesBefore (types : List TypeRow) (i : ℕ) (spaces : List (Bor (List ℕ))) : Type 0 where
  pub sound : (name : List ℕ) → IsOneOf spaces name → IsNamespace types name
  pub complete : (t : ℕ) (name : List ℕ) → t < i → HasType types t (λ row. (row.own ≡ false) × (row.outer ≡ None) × IsPrefix row.space name) → IsOneOf spaces name

pub no_space_yet : (types : List TypeRow) (spaces : List (Bor (List ℕ))) → spaces ≡ [] → SpacesBefore types 0 spaces
no_space_yet types spaces empty = record {
  sound = λ name one. let none : None ≡ Some one.1 = sym (ap (λ (xs : List (Bor (List ℕ))). slice_get xs one.0) empty) ∙ one.2 in absurd cc;
  complete = λ t name lt _. absurd (omega (arith, lt));
}

pub with_space : (types : List TypeRow) (i : ℕ) (row : TypeRow) (spaces found new : List (Bor (List ℕ))) → slice_get types i ≡ Some row → row.own ≡ false → row.outer ≡ None → HasPrefixes row.space found → HasAdded spaces found new → SpacesBefore types i spaces → SpacesBefore types (i + 1) new
with_space types i row spaces found new stands other top has added so = record {
  sound = λ name one. elim (added.sound name one) [
    | inl old ↦ so.sound name old
    | inr new_ ↦ let p = has.sound name new_ in record { t = i; top = record { row = row; stands = stands; is = (other, top, p.1) }; some = p.0 }
  ];
  complete = λ t name lt h. elim (cases_lt t i) [
    | inl less ↦ added.kept name (so.complete t name less h)
    | inr le ↦
        let e : t ≡ i = omega (arith, lt, le) in
        let same = one_item types i h.row row (ap (λ (k : ℕ). slice_get types k) (sym e) ∙ h.stands) stands in
        added.added name (has.complete name (subst (λ (r : TypeRow). IsPrefix r.space name) same h.is.2))
  ];
}

pub without_space : (types : List TypeRow) (i : ℕ) (row : TypeRow) (spaces : List (Bor (List ℕ))) → slice_get types i ≡ Some row → (row.own ≡ false → row.outer ≡ None → ⊥) → SpacesBefore types i spaces → SpacesBefore types (i + 1) spaces
without_space types i row spaces stands apart so = record {
  sound = so.sound;
  complete = λ t name lt h. elim (cases_lt t i) [
    | inl less ↦ so.complete t name less h
    | inr le ↦
        let e : t ≡ i = omega (arith, lt, le) in
        let same = one_item types i h.row row (ap (λ (k : ℕ). slice_get types k) (sym e) ∙ h.stands) stands in
        absurd (apart (sym (ap (λ (r : TypeRow). r.own) same) ∙ h.is.0) (sym (ap (λ (r : TypeRow). r.outer) same) ∙ h.is.1))
  ];
}

pub all_spaces : (types : List TypeRow) (i : ℕ) (spaces : List (Bor (List ℕ))) → length types ≤ i → SpacesBefore types i spaces → HasSpaces types spaces
all_spaces types i spaces all so = record {
  sound = so.sound;
  complete = λ name is.
      let top = is.top in
      let lt = slice_get_within types is.t top.row top.stands in
      so.complete is.t name (omega (arith, lt, all)) (record { row = top.row; stands = top.stands; is = (top.is.0, top.is.1, (is.some, top.is.2)) });
}
