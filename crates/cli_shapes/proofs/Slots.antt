-- A method without parameters has one slot.
use Rattle.std.proofs.Common.{◌≡◌, ◌∙◌, ℕ, Bool, true, false, Some, List, [], ◌∷◌, eqb, inl, refl, sym, ap, subst}
use Rattle.std.specs.List.{slice_get}
use Rattle.std.specs.Bool.{OnFalse}
use Rattle.std.proofs.lemmas.Bool.{eqb-true, eqb-false}
use Rattle.dc_base.specs.declared.names.MemberId.{MemberId}
use Rattle.dc_base.specs.declared.names.TypeId.{TypeId}
use Rattle.class_rows.specs.declared.row.TypeRow.{TypeRow}
use Rattle.class_rows.specs.declared.row.MemberRow.{MemberRow}
use Rattle.class_rows.specs.declared.row.Param.{Param}
use Rattle.class_rows.specs.Types.{IsBase}
use Rattle.class_rows.specs.Members.{HasMember}
use Rattle.class_rows.specs.Unique.{MembersAreUnique}
use Rattle.class_rows.specs.Implemented.{AreOneList}
use Rattle.class_rows.specs.Lookups.{IsVirtualLike, IsNearest, in_it, above, IsOverridden, IsSlot, itself, taken}

one_row : {X : Type 0} (xs : List X) (t : ℕ) (a b : X) → slice_get xs t ≡ Some a → slice_get xs t ≡ Some b → a ≡ b
one_row xs t a b p q = let e : Some a ≡ Some b = sym p ∙ q in cc

no_params : (across : Bool) (ps qs : List Param) → AreOneList across ps qs → qs ≡ [] → ps ≡ []
no_params across [] qs h e = refl
no_params across (p ∷ ps) [] h e = absurd h
no_params across (p ∷ ps) (q ∷ qs) h e = absurd cc

module _ (types : List TypeRow) (members : List MemberRow) (explicit : List (MemberId × MemberId)) (unique : MembersAreUnique types members explicit) where
  one_base : (t b c : ℕ) → IsBase types t b → IsBase types t c → b ≡ c
  one_base t b c x y =
      let rows = one_row types t x.row y.row x.stands y.stands in
      let up : x.row.base ≡ Some (record { 0 = c }) = subst (λ (r : TypeRow). r.base ≡ Some (record { 0 = c })) (sym rows) y.is in
      let i : TypeId = record { 0 = b } in
      let j : TypeId = record { 0 = c } in
      let both : Some i ≡ Some j = sym x.is ∙ up in
      let one : i ≡ j = cc in
      ap (λ (u : TypeId). u.0) one

  module _ (row : MemberRow) (none : row.params ≡ []) where
    one_like : (t n k : ℕ) → IsVirtualLike types members explicit row t n → IsVirtualLike types members explicit row t k → n ≡ k
    one_like t n k x y = elim (eqb n k) as (λ e. eqb n k ≡ e → n ≡ k) [
      | true ↦ λ e. eqb-true n k e
      | false ↦ λ e. absurd (unique n (inl (record {
        n = k;
        beside = record {
          apart = eqb-false n k e;
          named = x.1;
          other_named = y.1;
          a = x.0.row;
          stands = x.0.stands;
          b = y.0.row;
          other_stands = y.0.stands;
          one_owner = x.0.is.0 ∙ sym y.0.is.0;
        };
        agree = record {
          name = x.0.is.3.name ∙ sym y.0.is.3.name;
          sort = x.0.is.3.sort ∙ sym y.0.is.3.sort;
          params = no_params _ _ _ x.0.is.3.params none ∙ sym (no_params _ _ _ y.0.is.3.params none);
          result = x.0.is.3.result ∙ sym y.0.is.3.result;
        };
      })))
    ] refl

    one_nearest : (t n k : ℕ) → IsNearest types members explicit row t n → IsNearest types members explicit row t k → n ≡ k
    one_nearest t n k (in_it u m x) (in_it v j y) = one_like t n k x y
    one_nearest t n k (in_it u m x) (above v b j off base rest) = absurd (off n x)
    one_nearest t n k (above u b m off base rest) (in_it v j y) = absurd (off k y)
    one_nearest t n k (above u b m off base rest) (above v c j other up further_) =
        one_nearest b n k rest (subst (λ (d : ℕ). IsNearest types members explicit row d k) (sym (one_base t b c base up)) further_)

    -- what is nearest has no parameters either
    nearest_bare : (t n : ℕ) → IsNearest types members explicit row t n → HasMember members n (λ r. r.params ≡ [])
    nearest_bare t n (in_it u m x) = record { row = x.0.row; stands = x.0.stands; is = no_params _ _ _ x.0.is.3.params none }
    nearest_bare t n (above u b m off base rest) = nearest_bare b n rest

  bare_over : (m n : ℕ) → HasMember members m (λ r. r.params ≡ []) → (over : IsOverridden types members explicit m n) → over.row.params ≡ []
  bare_over m n bare over = subst (λ (r : MemberRow). r.params ≡ []) (one_row members m bare.row over.row bare.stands over.stands) bare.is

  one_over : (m n k : ℕ) → HasMember members m (λ r. r.params ≡ []) → IsOverridden types members explicit m n → IsOverridden types members explicit m k → n ≡ k
  one_over m n k bare x y =
      let none = bare_over m n bare x in
      let rows : y.row ≡ x.row = one_row members m y.row x.row y.stands x.stands in
      let base : IsBase types x.row.owner.0 y.b = subst (λ (r : MemberRow). IsBase types r.owner.0 y.b) rows y.base in
      let up : y.b ≡ x.b = one_base x.row.owner.0 y.b x.b base x.base in
      let near : IsNearest types members explicit x.row y.b k = subst (λ (r : MemberRow). IsNearest types members explicit r y.b k) rows y.nearest in
      one_nearest x.row none x.b n k x.nearest (subst (λ (d : ℕ). IsNearest types members explicit x.row d k) up near)

  pub one_slot : (m s r : ℕ) → HasMember members m (λ r. r.params ≡ []) → IsSlot types members explicit m s → IsSlot types members explicit m r → s ≡ r
  one_slot m s r bare (itself u first) (itself v off) = refl
  one_slot m s r bare (itself u first) (taken v n w over rest) = absurd (first n over)
  one_slot m s r bare (taken u n w over rest) (itself v first) = absurd (first n over)
  one_slot m s r bare (taken u n w over rest) (taken v k x other further_) =
      let same : n ≡ k = one_over m n k bare over other in
      one_slot n s r (nearest_bare over.row (bare_over m n bare over) over.b n over.nearest) rest
      (subst (λ (j : ℕ). IsSlot types members explicit j r) (sym same) further_)

-- where what is found isn't so, and nothing else is found, nothing found is so
pub excluded : (Found So : ℕ → Type 0) (b : Bool) (r : ℕ) → ((s : ℕ) → Found s → s ≡ r) → OnFalse b (So r → ⊥) → OnFalse b ((s : ℕ) × Found s × So s → ⊥)
excluded Found So true r one off = tt
excluded Found So false r one off = λ found. off (subst So (one found.0 found.1) found.2)
