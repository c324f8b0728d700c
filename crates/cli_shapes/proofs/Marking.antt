-- One more member is looked at.
use Rattle.std.proofs.Common.{◌≡◌, ◌∙◌, ℕ, ◌+◌, ◌-◌, ◌<◌, ◌≤◌, Bool, true, false, Option, Some, None, IfNone, List, length, set, eqb, inl, inr, refl, sym, ap, subst, arith}
use Rattle.std.specs.List.{slice_get}
use Rattle.std.proofs.Math.ListN.{length-set}
use Rattle.std.proofs.lemmas.Bool.{cases_lt, eqb-true, eqb-false}
use Rattle.std.proofs.lemmas.Option.{slice_get_within}
use Rattle.class_chains.proofs.Marks.{set_at}
use Rattle.class_open.proofs.Put.{set_other}
use Rattle.class_rows.specs.declared.row.MemberRow.{MemberRow}
use Rattle.cli_shapes.specs.declared.own.Own.{Own}
use Rattle.cli_shapes.specs.declared.marks.Sought.{Sought}
use Rattle.cli_shapes.specs.Own.{IsOf, HasOf, IsSound}
use Rattle.cli_shapes.specs.Marks.{Is, AreMarks, AreMarksTo}

one_row : {X : Type 0} (xs : List X) (t : ℕ) (a b : X) → slice_get xs t ≡ Some a → slice_get xs t ≡ Some b → a ≡ b
one_row xs t a b p q = let e : Some a ≡ Some b = sym p ∙ q in cc

-- a member is one of one type
one_type : (s : Own) (F : ℕ → MemberRow → Type 0) (t u k : ℕ) → IsOf s t F k → IsOf s u F k → t ≡ u
one_type s F t u k x y =
    let rows : x.row ≡ y.row = one_row s.table.now.members (s.first_member.0 + k) x.row y.row x.stands y.stands in
    let owners : x.row.owner.0 ≡ y.row.owner.0 = ap (λ (r : MemberRow). r.owner.0) rows in
    omega (arith, owners, x.owned, y.owned)

module _ (s : Own) (sought : Sought) (k : ℕ) (marks : List Bool) where
  pub kept : ((t : ℕ) → t < length s.table.now.types - s.first_type.0 → IsOf s t (Is s sought) k → ⊥) → AreMarksTo s sought k marks → AreMarksTo s sought (k + 1) marks
  kept off are = record {
    long = are.long;
    sound_ = are.sound_;
    all_ = λ t j lt up of. elim (cases_lt j k) as (λ _. slice_get marks t ≡ Some true) [
      | inl below ↦ are.all_ t j lt below of
      | inr past ↦
          let same : j ≡ k = omega (arith, up, past) in
          absurd (off t (omega (arith, lt, are.long)) (subst (λ (n : ℕ). IsOf s t (Is s sought) n) same of))
    ];
  }

  pub more : (t : ℕ) → t < length s.table.now.types - s.first_type.0 → IsOf s t (Is s sought) k → AreMarksTo s sought k marks → AreMarksTo s sought (k + 1) (set marks t true)
  more t lt of are =
      let within : t < length marks = omega (arith, lt, are.long) in
      let long : length (set marks t true) ≡ length marks = length-set marks t true in
      record {
        long = long ∙ are.long;
        sound_ = λ u at. elim (eqb t u) as (λ b. eqb t u ≡ b → HasOf s u (Is s sought)) [
          | true ↦ λ e. subst (λ (n : ℕ). HasOf s n (Is s sought)) (eqb-true t u e) (k, of)
          | false ↦ λ e. are.sound_ u (sym (set_other marks t u true (eqb-false t u e)) ∙ at)
        ] refl;
        all_ = λ u j small up of_u. elim (eqb t u) as (λ b. eqb t u ≡ b → slice_get (set marks t true) u ≡ Some true) [
          | true ↦ λ e. subst (λ (n : ℕ). slice_get (set marks t true) n ≡ Some true) (eqb-true t u e) (set_at marks t true within)
          | false ↦ λ e. elim (cases_lt j k) as (λ _. slice_get (set marks t true) u ≡ Some true) [
            | inl below ↦ set_other marks t u true (eqb-false t u e) ∙ are.all_ u j (omega (arith, small, long)) below of_u
            | inr past ↦
                let same : j ≡ k = omega (arith, up, past) in
                absurd (eqb-false t u e (one_type s (Is s sought) t u k of (subst (λ (n : ℕ). IsOf s u (Is s sought) n) same of_u)))
          ]
        ] refl;
      }

-- all members were looked at
pub whole : (s : Own) (sought : Sought) (count : ℕ) (marks : List Bool) → IsSound s → length s.told.now ≤ count → AreMarksTo s sought count marks → AreMarks s sought marks
whole s sought count marks sound last are = record {
  long = are.long;
  sound_ = are.sound_;
  all_ = λ t lt has.
      let there : s.first_member.0 + has.0 < length s.table.now.members = slice_get_within s.table.now.members (s.first_member.0 + has.0) has.1.row has.1.stands in
      are.all_ t has.0 lt (omega (arith, there, sound.members, last)) has.1;
}

-- a member whose owner is no own type is one of none
pub no_type : (s : Own) (F : ℕ → MemberRow → Type 0) (k : ℕ) (row : MemberRow) (found : Option ℕ) → slice_get s.table.now.members (s.first_member.0 + k) ≡ Some row
    → IfNone found ((n : ℕ) → n < length s.table.now.types - s.first_type.0 → row.owner.0 ≡ s.first_type.0 + n → ⊥)
    → IfNone found ((t : ℕ) → t < length s.table.now.types - s.first_type.0 → IsOf s t F k → ⊥)
no_type s F k row (Some t) stands off = tt
no_type s F k row None stands off = λ t lt of.
    let rows : of.row ≡ row = one_row s.table.now.members (s.first_member.0 + k) of.row row of.stands stands in
    off t lt (sym (ap (λ (r : MemberRow). r.owner.0) rows) ∙ of.owned)
