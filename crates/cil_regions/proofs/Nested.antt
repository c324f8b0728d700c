-- The parent of a region is the last one before it that ends behind its start, where any two are laminar.
use Rattle.std.proofs.Common.{◌≡◌, ℕ, ◌<◌, ◌≤◌, true, List, length, get_or, ◌⊎◌, inl, inr, sym, ap, ◌∙◌, subst, arith}
use Rattle.std.proofs.lemmas.Bool.{cases_order}
use Rattle.std.proofs.lemmas.List.{get_or_default}
use Rattle.std.proofs.lemmas.List.Elements.{Contains-get_or}
use Rattle.std.specs.List.{AllPairs}
use Rattle.cil_regions.specs.declared.region.Span.{Span}
use Rattle.cil_regions.specs.Region.{is_inside, AreLaminar, IsParent}
use Rattle.cil_regions.specs.Laid.{AreLaid}
use Rattle.cil_regions.proofs.Inside.{inside_from, inside_parts, inside_asym, lies_parts}
use Rattle.cil_regions.proofs.Chain.{starts_rise}

-- one of two regions that overlap stands inside the other, which begins before it
inside_laminar : (r s : Span) → r.from < s.from → s.from < s.to → s.from < r.to → AreLaminar r s → is_inside s r ≡ true
inside_laminar r s before wide over laminar =
    elim laminar [
      | inl left ↦ absurd (omega arith)
      | inr more ↦ elim more [
        | inl right ↦ absurd (omega arith)
        | inr lies ↦ elim lies [
          | inl in' ↦ absurd (omega (arith, (lies_parts r s in').0))
          | inr out ↦ inside_from s r record { starts = omega arith; ends = (lies_parts s r out).1; later = λ a b. absurd (omega arith) }
        ]
      ]
    ]

module _ (spans : List Span) (laid : AreLaid spans) (laminar : AllPairs AreLaminar spans) where
  pub inside_later : (j k : ℕ) (d : Span) → j < k → k < length spans → (get_or spans k d).from < (get_or spans j d).to → is_inside (get_or spans k d) (get_or spans j d) ≡ true
  inside_later j k d lt within over =
      elim (laid.ordered j k d lt within) [
        | inl before ↦
            inside_laminar (get_or spans j d) (get_or spans k d) before (laid.wide k d (omega arith) within) over (laminar j k d lt within)
        | inr same ↦ same.1
      ]

  -- a region stands inside earlier ones alone
  pub holder_before : (j k : ℕ) (d : Span) → j < length spans → k < length spans → is_inside (get_or spans k d) (get_or spans j d) ≡ true → j < k
  holder_before j k d at within inside =
      elim (cases_order j k) [
        | inl is ↦
            absurd (inside_asym (get_or spans k d) (get_or spans j d) inside (subst (λ i. is_inside (get_or spans i d) (get_or spans k d) ≡ true) (sym is) (subst (λ i. is_inside (get_or spans k d) (get_or spans i d) ≡ true) is inside)))
        | inr apart ↦ elim apart [
          | inl before ↦ before
          | inr behind ↦ elim (laid.ordered k j d behind at) [
            | inl less ↦
                let parts = inside_parts (get_or spans k d) (get_or spans j d) inside in
                absurd (omega (arith, parts.starts))
            | inr same ↦ absurd (inside_asym (get_or spans k d) (get_or spans j d) inside same.1)
          ]
        ]
      ]

  -- which end behind its start
  pub holder_over : (j k : ℕ) (d : Span) → 0 < k → k < length spans → is_inside (get_or spans k d) (get_or spans j d) ≡ true → (get_or spans k d).from < (get_or spans j d).to
  holder_over j k d pos within inside =
      let parts = inside_parts (get_or spans k d) (get_or spans j d) inside in
      let wide = laid.wide k d pos within in
      omega (arith, parts.ends)

  module _ (k p : ℕ) (d : Span) (pos : 0 < k) (within : k < length spans) (before : p < k) (over : (get_or spans k d).from < (get_or spans p d).to) (last : (i : ℕ) → p < i → i < k → (get_or spans i d).to ≤ (get_or spans k d).from) where
    -- a region that k stands inside is its parent, or the parent stands inside it
    pub holder_cases : (i : ℕ) → i < length spans → is_inside (get_or spans k d) (get_or spans i d) ≡ true → (i ≡ p) ⊎ ((i < p) × (is_inside (get_or spans p d) (get_or spans i d) ≡ true))
    holder_cases i at inside =
        let earlier = holder_before i k d at within inside in
        let beyond = holder_over i k d pos within inside in
        elim (cases_order i p) [
          | inl is ↦ inl is
          | inr apart ↦ elim apart [
            | inl less ↦
                let rise = starts_rise spans laid p k d before within in
                inr (less, inside_later i p d less (omega arith) (omega (arith, beyond, rise)))
            | inr more ↦ absurd (omega (arith, last i more earlier, beyond))
          ]
        ]

    pub parent_is : IsParent spans (get_or spans k d) (get_or spans p d)
    parent_is = record {
      among = Contains-get_or spans p d (omega arith);
      inside = inside_later p k d before within over;
      innermost = λ q has inside.
          let here : get_or spans has.0 d ≡ q = get_or_default spans has.0 d q has.1 ∙ has.2 in
          elim (holder_cases has.0 has.1 (subst (λ r. is_inside (get_or spans k d) r ≡ true) (sym here) inside)) [
            | inl is ↦ inl (sym here ∙ ap (λ i. get_or spans i d) is)
            | inr outer ↦ inr (subst (λ r. is_inside (get_or spans p d) r ≡ true) here outer.1)
          ];
    }

-- a region has one parent
pub one_parent : (spans : List Span) (r p q : Span) → IsParent spans r p → IsParent spans r q → p ≡ q
one_parent spans r p q h k =
    elim (h.innermost q k.among k.inside) [
      | inl is ↦ sym is
      | inr out ↦ elim (k.innermost p h.among h.inside) [ inl is ↦ is | inr back ↦ absurd (inside_asym p q out back) ]
    ]
