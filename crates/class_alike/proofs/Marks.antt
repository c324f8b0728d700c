-- One more explicit implementation is marked.
use Rattle.std.proofs.Common.{◌≡◌, ◌⊎◌, ℕ, zero, suc, ◌<◌, Bool, true, false, Some, List, [], ◌∷◌, ◌++◌, length, set, eqb, inl, inr, sym, refl, ap, subst, ◌∙◌, arith}
use Rattle.std.proofs.Math.ListN.{length-set}
use Rattle.std.proofs.lemmas.Bool.{eqb-true, eqb-false}
use Rattle.std.proofs.lemmas.List.Elements.{Contains-append_left, Contains-push, Contains-push_cases}
use Rattle.std.proofs.lemmas.Option.{slice_get_within}
use Rattle.std.specs.List.{slice_get}
use Rattle.class_chains.proofs.Marks.{set_at}
use Rattle.dc_base.specs.declared.names.MemberId.{MemberId}
use Rattle.dc_base.specs.declared.names.TypeId.{TypeId}
use Rattle.class_rows.specs.declared.row.TypeRow.{TypeRow}
use Rattle.class_rows.specs.declared.row.MemberRow.{MemberRow}
use Rattle.class_rows.specs.Names.{IsReference}
use Rattle.class_rows.specs.Members.{IsNameless}
use Rattle.class_alike.specs.Named.{IsOfReference, AreMarks}

set_other : {X : Type 0} (xs : List X) (i j : ℕ) (x : X) → (i ≡ j → ⊥) → slice_get (set xs i x) j ≡ slice_get xs j
set_other [] i j x apart = refl
set_other (y ∷ ys) zero zero x apart = absurd (apart refl)
set_other (y ∷ ys) zero (suc j) x apart = refl
set_other (y ∷ ys) (suc i) zero x apart = refl
set_other (y ∷ ys) (suc i) (suc j) x apart = set_other ys i j x (λ e. apart (ap suc e))

one_row : {X : Type 0} (xs : List X) (t : ℕ) (a b : X) → slice_get xs t ≡ Some a → slice_get xs t ≡ Some b → a ≡ b
one_row xs t a b p q = let e : Some a ≡ Some b = sym p ∙ q in cc

module _ (types : List TypeRow) (members : List MemberRow) (seen : List (MemberId × MemberId)) (marks : List Bool) (pair : MemberId × MemberId) where
  more_nameless : (m : ℕ) → IsNameless types members seen m → IsNameless types members (seen ++ (pair ∷ [])) m
  more_nameless m n = record { t = n.t; owned = n.owned; reference = n.reference; interface_member = n.interface_member; paired = Contains-append_left seen (pair ∷ []) _ n.paired }

  of_reference : (m : ℕ) → IsNameless types members (seen ++ (pair ∷ [])) m → IsOfReference types members m
  of_reference m n = record { row = n.owned.row; stands = n.owned.stands; is = subst (λ (o : ℕ). IsReference types o) (ap (λ (o : TypeId). o.0) (sym n.owned.is)) n.reference }

  nameless_cases : (m : ℕ) → IsNameless types members (seen ++ (pair ∷ [])) m → IsNameless types members seen m ⊎ (pair.0.0 ≡ m)
  nameless_cases m n = elim (Contains-push_cases seen pair (record { 0 = m }, record { 0 = n.interface_member }) n.paired) [
    | inl there ↦ inl (record { t = n.t; owned = n.owned; reference = n.reference; interface_member = n.interface_member; paired = there })
    | inr e ↦ inr (ap (λ (p : MemberId × MemberId). p.0.0) e)
  ]

  nameless_now : IsOfReference types members pair.0.0 → IsNameless types members (seen ++ (pair ∷ [])) pair.0.0
  nameless_now of = record {
    t = of.row.owner.0;
    owned = record { row = of.row; stands = of.stands; is = refl };
    reference = of.is;
    interface_member = pair.1.0;
    paired = Contains-push seen pair;
  }

  pub marks_kept : (IsOfReference types members pair.0.0 → ⊥) → AreMarks types members seen marks → AreMarks types members (seen ++ (pair ∷ [])) marks
  marks_kept off are = record {
    long = are.long;
    yes_ = λ m at. more_nameless m (are.yes_ m at);
    no_ = λ m n. elim (nameless_cases m n) [
      | inl there ↦ are.no_ m there
      | inr e ↦ absurd (off (subst (λ (k : ℕ). IsOfReference types members k) (sym e) (of_reference m n)))
    ];
  }

  pub marks_more : IsOfReference types members pair.0.0 → AreMarks types members seen marks → AreMarks types members (seen ++ (pair ∷ [])) (set marks pair.0.0 true)
  marks_more of are =
      let lt : pair.0.0 < length marks = omega (arith, slice_get_within members pair.0.0 of.row of.stands, are.long) in
      let here_ = set_at marks pair.0.0 true lt in
      record {
        long = length-set marks pair.0.0 true ∙ are.long;
        yes_ = λ m at. elim (eqb pair.0.0 m) as (λ b. eqb pair.0.0 m ≡ b → IsNameless types members (seen ++ (pair ∷ [])) m) [
          | true ↦ λ e. subst (λ (k : ℕ). IsNameless types members (seen ++ (pair ∷ [])) k) (eqb-true pair.0.0 m e) (nameless_now of)
          | false ↦ λ e. more_nameless m (are.yes_ m (sym (set_other marks pair.0.0 m true (eqb-false pair.0.0 m e)) ∙ at))
        ] refl;
        no_ = λ m n. elim (eqb pair.0.0 m) as (λ b. eqb pair.0.0 m ≡ b → slice_get (set marks pair.0.0 true) m ≡ Some true) [
          | true ↦ λ e. subst (λ (k : ℕ). slice_get (set marks pair.0.0 true) k ≡ Some true) (eqb-true pair.0.0 m e) here_
          | false ↦ λ e. elim (nameless_cases m n) [
            | inl there ↦ set_other marks pair.0.0 m true (eqb-false pair.0.0 m e) ∙ are.no_ m there
            | inr same ↦ absurd (eqb-false pair.0.0 m e same)
          ]
        ] refl;
      }
