-- Walks out of the types round one.
use Rattle.std.proofs.Common.{◌≡◌, ◌⊎◌, ℕ, ◌<◌, Bool, true, false, Option, Some, None, List, inl, inr, sym, refl, ap, subst, ◌∙◌, arith}
use Rattle.std.specs.List.{slice_get}
use Rattle.dc_base.specs.declared.names.TypeId.{TypeId}
use Rattle.class_chains.specs.Ends.{Reaches, here, further}
use Rattle.class_rows.specs.declared.row.TypeRow.{TypeRow}
use Rattle.class_rows.specs.declared.row.Access.TheVariants.{Public}
use Rattle.class_rows.specs.Types.{HasType, IsBase, IsOuter, InBaseChain}
use Rattle.class_rows.specs.Lookups.{IsHeir, IsThrough, IsOpen, at_top, nested, MayName}
use Rattle.class_parts.proofs.Climb.{reached, one_outer}

-- the walk stands at a type round `from` whose heirs are those of `from`
pub record IsHeirClimb (types : List TypeRow) (from_ at owner : ℕ) (through : Option TypeId) : Type 0 where
  pub to : IsHeir types at owner through → IsHeir types from_ owner through
  pub back : IsHeir types from_ owner through → IsHeir types at owner through

pub heir_here : (types : List TypeRow) (from_ at owner : ℕ) (through : Option TypeId) → IsHeirClimb types from_ at owner through → InBaseChain types at owner × IsThrough types through at → IsHeir types from_ owner through
heir_here types from_ at owner through climb fits = climb.to (record { heir = at; round = here at; derives = fits.0; reached = fits.1 })

pub heir_out : (types : List TypeRow) (from_ at o owner : ℕ) (through : Option TypeId) → IsHeirClimb types from_ at owner through → IsOuter types at o → (InBaseChain types at owner × IsThrough types through at → ⊥) → IsHeirClimb types from_ o owner through
heir_out types from_ at o owner through climb outer off = record {
  to = λ h. climb.to (record { heir = h.heir; round = further at o h.heir outer h.round; derives = h.derives; reached = h.reached });
  back = λ h. let k = climb.back h in elim (reached (IsOuter types) at k.heir k.round) [
    | inl e ↦ absurd (off (subst (λ (n : ℕ). InBaseChain types n owner × IsThrough types through n) (sym e) (k.derives, k.reached)))
    | inr s ↦ record {
      heir = k.heir;
      round = subst (λ (n : ℕ). Reaches (IsOuter types) n k.heir) (one_outer types at s.0 o s.1 outer) s.2;
      derives = k.derives;
      reached = k.reached;
    }
  ];
}

pub no_heir : (types : List TypeRow) (from_ at owner : ℕ) (through : Option TypeId) → IsHeirClimb types from_ at owner through → ((o : ℕ) → IsOuter types at o → ⊥) → (InBaseChain types at owner × IsThrough types through at → ⊥) → IsHeir types from_ owner through → ⊥
no_heir types from_ at owner through climb top off h =
    let k = climb.back h in
    elim (reached (IsOuter types) at k.heir k.round) [
      | inl e ↦ off (subst (λ (n : ℕ). InBaseChain types n owner × IsThrough types through n) (sym e) (k.derives, k.reached))
      | inr s ↦ top s.0 s.1
    ]

-- the same for a type that is to be open
pub record IsOpenClimb (types : List TypeRow) (from_ t at : ℕ) : Type 0 where
  pub to : IsOpen types from_ at → IsOpen types from_ t
  pub back : IsOpen types from_ t → IsOpen types from_ at

-- how a type is open
abbrev pub IsOpenSo : List TypeRow → ℕ → ℕ → Type 0
IsOpenSo types from_ t =
    HasType types t (λ row. (row.outer ≡ None) × ((row.access ≡ Public) ⊎ (row.own ≡ true)))
    ⊎ ((o : ℕ) × IsOuter types t o × HasType types t (λ row. MayName types row.access o from_ None) × IsOpen types from_ o)

pub opened : (types : List TypeRow) (from_ t : ℕ) → IsOpen types from_ t → IsOpenSo types from_ t
opened types from_ t (at_top u top) = inl top
opened types from_ t (nested u o outer may open_) = inr (o, outer, may, open_)

one_row : (types : List TypeRow) (t : ℕ) (a b : TypeRow) → slice_get types t ≡ Some a → slice_get types t ≡ Some b → a ≡ b
one_row types t a b p q = let e : Some a ≡ Some b = sym p ∙ q in cc

no_outer : (types : List TypeRow) (t o : ℕ) → IsOuter types t o → (row : TypeRow) → slice_get types t ≡ Some row → row.outer ≡ None → ⊥
no_outer types t o outer row stands none =
    let e = one_row types t outer.row row outer.stands stands in
    let k = sym outer.is ∙ ap (λ (r : TypeRow). r.outer) e ∙ none in cc

pub open_out : (types : List TypeRow) (from_ t at o : ℕ) → IsOpenClimb types from_ t at → IsOuter types at o → HasType types at (λ row. MayName types row.access o from_ None) → IsOpenClimb types from_ t o
open_out types from_ t at o climb outer may = record {
  to = λ h. climb.to (nested at o outer may h);
  back = λ h. elim (opened types from_ at (climb.back h)) [
    | inl top ↦ absurd (no_outer types at o outer top.row top.stands top.is.0)
    | inr s ↦ subst (λ (n : ℕ). IsOpen types from_ n) (one_outer types at s.0 o s.1 outer) s.3
  ];
}

pub not_open : (types : List TypeRow) (from_ t at o : ℕ) → IsOpenClimb types from_ t at → IsOuter types at o → (HasType types at (λ row. MayName types row.access o from_ None) → ⊥) → IsOpen types from_ t → ⊥
not_open types from_ t at o climb outer may h = elim (opened types from_ at (climb.back h)) [
  | inl top ↦ no_outer types at o outer top.row top.stands top.is.0
  | inr s ↦ may (subst (λ (n : ℕ). HasType types at (λ row. MayName types row.access n from_ None)) (one_outer types at s.0 o s.1 outer) s.2)
]

pub open_top : (types : List TypeRow) (from_ t at : ℕ) → IsOpenClimb types from_ t at → HasType types at (λ row. (row.outer ≡ None) × ((row.access ≡ Public) ⊎ (row.own ≡ true))) → IsOpen types from_ t
open_top types from_ t at climb top = climb.to (at_top at top)

pub closed_top : (types : List TypeRow) (from_ t at : ℕ) → IsOpenClimb types from_ t at → ((o : ℕ) → IsOuter types at o → ⊥) → IsOpen types from_ t → HasType types at (λ row. (row.outer ≡ None) × ((row.access ≡ Public) ⊎ (row.own ≡ true)))
closed_top types from_ t at climb none h = elim (opened types from_ at (climb.back h)) [
  | inl top ↦ top
  | inr s ↦ absurd (none s.0 s.1)
]
