-- Regions that cross one another.
use Rattle.std.proofs.Common.{◌≡◌, ℕ, ◌+◌, ◌<◌, ◌≤◌, Bool, true, false, ltb, List, length, get_or, set, inl, inr, sym, refl, ap, ◌∙◌, subst, arith, get_or-set_same, get_or-set_other, length-set}
use Rattle.std.proofs.lemmas.Bool.{ltb-true, ltb-false, cases_lt, cases_order}
use Rattle.std.proofs.lemmas.List.{get_or_default}
use Rattle.std.proofs.lemmas.List.Elements.{Contains-get_or}
use Rattle.std.specs.Bool.{MatchBool}
use Rattle.std.specs.List.{AllPairs}
use Rattle.cil_regions.specs.declared.region.Span.{Span}
use Rattle.cil_regions.specs.Region.{AreLaminar, ComesBefore, CrossesAt, IsLeast}
use Rattle.cil_regions.specs.Laid.{AreRising, Crosses}
use Rattle.cil_regions.specs.Outlasting.{IsCrossed, IsOutlasting, AreOutlasting}
use Rattle.cil_regions.proofs.Chain.{no_span}
use Rattle.cil_regions.proofs.Inside.{inside_parts, lies_from, lies_parts}

pub laminar_from : (r s : Span) → ComesBefore r s → (Crosses r s → ⊥) → AreLaminar r s
laminar_from r s before none =
    elim before [
      | inl less ↦ elim (cases_lt s.from r.to) [
        | inl over ↦ elim (cases_lt r.to s.to) [
          | inl past ↦ absurd (none (less, over, past))
          | inr within ↦ inr (inr (inr (lies_from s r (omega arith) within)))
        ]
        | inr off ↦ inl off
      ]
      | inr same ↦
          let parts = inside_parts s r same.1 in
          inr (inr (inr (lies_from s r parts.starts parts.ends)))
    ]

pub never_laminar : (r s : Span) → Crosses r s → AreLaminar r s → ⊥
never_laminar r s cross laminar =
    elim laminar [
      | inl left ↦ omega (arith, cross.1)
      | inr more ↦ elim more [
        | inl right ↦ omega (arith, cross.0, cross.1, cross.2)
        | inr lies ↦ elim lies [
          | inl in' ↦ omega (arith, cross.0, (lies_parts r s in').0)
          | inr out ↦ omega (arith, cross.2, (lies_parts s r out).1)
        ]
      ]
    ]

pub laminar_back : (r s : Span) → AreLaminar r s → AreLaminar s r
laminar_back r s laminar =
    elim laminar [
      | inl left ↦ inr (inl left)
      | inr more ↦ elim more [
        | inl right ↦ inl right
        | inr lies ↦ elim lies [ inl in' ↦ inr (inr (inr in')) | inr out ↦ inr (inr (inl out)) ]
      ]
    ]

pub laminar_itself : (r : Span) → AreLaminar r r
laminar_itself r = inr (inr (inl (lies_from r r (omega arith) (omega arith))))

pub rising : (spans : List Span) → AllPairs ComesBefore spans → AreRising spans
rising spans ordered i j d le lt =
    elim (cases_lt i j) [
      | inl less ↦ elim (ordered i j d less lt) [ inl before ↦ omega (arith, before) | inr same ↦ omega (arith, same.0) ]
      | inr past ↦
          let is : i ≡ j = omega arith in
          omega (arith, ap (λ k. (get_or spans k d).from) is)
    ]

module _ (spans : List Span) (ordered : AllPairs ComesBefore spans) (i : ℕ) (d : Span) (within : i < length spans) (before : (a b : ℕ) (d : Span) → a < i → a < b → b < length spans → AreLaminar (get_or spans a d) (get_or spans b d)) where
  pub laminar_more : (IsCrossed spans i → ⊥) → (a b : ℕ) (e : Span) → a < i + 1 → a < b → b < length spans → AreLaminar (get_or spans a e) (get_or spans b e)
  laminar_more none a b e lt less inside =
      elim (cases_lt a i) [
        | inl early ↦ before a b e early less inside
        | inr past ↦
            let is : a ≡ i = omega arith in
            laminar_from (get_or spans a e) (get_or spans b e) (ordered a b e less inside)
            (λ cross. none (
              b,
              subst (λ (n : ℕ). n < b) is less,
              inside,
              λ f.
                  subst (λ s. Crosses s (get_or spans b f)) (get_or_default spans a e f (omega arith) ∙ ap (λ n. get_or spans n f) is)
                  (subst (λ s. Crosses (get_or spans a e) s) (get_or_default spans b e f inside) cross),
            ))
      ]

  none_sooner : (p : ℕ) → p < (get_or spans i d).from → CrossesAt spans p → ⊥
  none_sooner p less c =
      let r = c.0 in
      let s = c.1 in
      let a = c.2.0 in
      let b = c.3.0 in
      let at_r : get_or spans a d ≡ r = get_or_default spans a d r c.2.1 ∙ c.2.2 in
      let at_s : get_or spans b d ≡ s = get_or_default spans b d s c.3.1 ∙ c.3.2 in
      let start = ap (λ (u : Span). u.from) at_r in
      let apart : AreLaminar (get_or spans a d) (get_or spans b d) → ⊥ = λ l. c.5 (subst (λ u. AreLaminar u s) at_r (subst (AreLaminar (get_or spans a d)) at_s l)) in
      elim (cases_lt a i) [
        | inl early ↦ elim (cases_order a b) [
          | inl is ↦ apart (subst (λ n. AreLaminar (get_or spans a d) (get_or spans n d)) is (laminar_itself (get_or spans a d)))
          | inr other ↦ elim other [
            | inl up ↦ apart (before a b d early up c.3.1)
            | inr down ↦ apart (laminar_back (get_or spans b d) (get_or spans a d) (before b a d (omega arith) down c.2.1))
          ]
        ]
        | inr past ↦
            let rises = rising spans ordered i a d past c.2.1 in
            omega (arith, rises, start, c.4)
      ]

  pub least_crossing : IsCrossed spans i → IsLeast (CrossesAt spans) (get_or spans i d).from
  least_crossing crossed = (
    (
      get_or spans i d,
      get_or spans crossed.0 d,
      Contains-get_or spans i d within,
      Contains-get_or spans crossed.0 d crossed.2,
      refl,
      never_laminar (get_or spans i d) (get_or spans crossed.0 d) (crossed.3 d),
    ),
    none_sooner,
  )

-- the next region that ends behind this one crosses it where it begins before this one's end
module _ (spans : List Span) (ordered : AllPairs ComesBefore spans) (i next : ℕ) (is : IsOutlasting spans i next) where
  pub crossed_by : (d : Span) → next < length spans → (get_or spans next d).from < (get_or spans i d).to → IsCrossed spans i
  crossed_by d within early =
      let after = is.after in
      let ends = is.ends d within in
      let begins : (get_or spans i d).from < (get_or spans next d).from =
      elim (ordered i next d after within) [
        | inl less ↦ less
        | inr same ↦
            let parts = inside_parts (get_or spans next d) (get_or spans i d) same.1 in
            absurd (omega (arith, ends, parts.ends))
      ] in (
        next,
        after,
        within,
        λ e.
            subst (λ s. Crosses s (get_or spans next e)) (get_or_default spans i d e (omega arith))
            (subst (λ s. Crosses (get_or spans i d) s) (get_or_default spans next d e within) (begins, early, ends)),
      )

  -- no later region does where it doesn't
  pub not_crossed : ((d : Span) → next < length spans → (get_or spans i d).to ≤ (get_or spans next d).from) → IsCrossed spans i → ⊥
  not_crossed late crossed =
      let j = crossed.0 in
      let within = crossed.2 in
      let d : Span = get_or spans i no_span in
      let cross = crossed.3 d in
      elim (cases_lt j next) [
        | inl early ↦
            let below = is.between j d crossed.1 early in
            omega (arith, below, cross.2)
        | inr past ↦
            let far = late d (omega arith) in
            let rises = rising spans ordered next j d past within in
            omega (arith, far, rises, cross.1)
      ]

-- what is passed over with a region ends no later
pub outlasting_step : (spans : List Span) (table : List ℕ) (i next : ℕ) (d : Span) → AreOutlasting spans (i + 1) table → i < next → next < length spans → ((j : ℕ) (e : Span) → i < j → j < next → (get_or spans j e).to ≤ (get_or spans i e).to) → (get_or spans next d).to ≤ (get_or spans i d).to
    → (j : ℕ) (e : Span) → i < j → j < get_or table next 0 → (get_or spans j e).to ≤ (get_or spans i e).to
outlasting_step spans table i next d known after within so_far below j e behind front =
    let o = known.each next (omega arith) within in
    let here : (get_or spans next e).to ≤ (get_or spans i e).to =
    omega (arith, below, ap (λ (s : Span). s.to) (get_or_default spans next d e within), ap (λ (s : Span). s.to) (get_or_default spans i d e (omega arith))) in
    elim (cases_lt j next) [
      | inl early ↦ so_far j e behind early
      | inr past ↦ elim (cases_lt next j) [
        | inl less ↦
            let step = o.between j e less front in
            omega (arith, here, step)
        | inr same ↦
            let is : next ≡ j = omega arith in
            subst (λ (n : ℕ). (get_or spans n e).to ≤ (get_or spans i e).to) is here
      ]
    ]

-- one more line of the table
pub outlasting_more : (spans : List Span) (table : List ℕ) (i next : ℕ) → i < length spans → AreOutlasting spans (i + 1) table → IsOutlasting spans i next → AreOutlasting spans i (set table i next)
outlasting_more spans table i next within known is = record {
  as_many = length-set table i next ∙ known.as_many;
  each = λ k from inside.
      elim (cases_lt i k) [
        | inl less ↦
            subst (IsOutlasting spans k) (sym (get_or-set_other table i k next 0 (λ t. omega arith))) (known.each k (omega arith) inside)
        | inr past ↦
            let same : i ≡ k = omega arith in
            subst (λ (n : ℕ). IsOutlasting spans n (get_or (set table i next) n 0)) same
            (subst (IsOutlasting spans i) (sym (get_or-set_same table i next 0 (omega (arith, within, known.as_many)))) is)
      ];
}

-- the same of the region that is looked up
crossed_when :
    (spans : List Span) (ordered : AllPairs ComesBefore spans) (i next : ℕ) (is : IsOutlasting spans i next) (d : Span) → next < length spans → (b : Bool) → ltb (get_or spans next d).from (get_or spans i d).to ≡ b → MatchBool b (IsCrossed spans i) (IsCrossed spans i → ⊥)
crossed_when spans ordered i next is d within true e =
    crossed_by spans ordered i next is d within (ltb-true (get_or spans next d).from (get_or spans i d).to e)
crossed_when spans ordered i next is d within false e =
    let far = ltb-false (get_or spans next d).from (get_or spans i d).to e in
    let after = is.after in
    not_crossed spans ordered i next is
    (λ f _. omega (arith, far, ap (λ (s : Span). s.from) (get_or_default spans next d f within), ap (λ (s : Span). s.to) (get_or_default spans i d f (omega arith))))

pub crossed_test :
    (spans : List Span) (ordered : AllPairs ComesBefore spans) (i next : ℕ) (is : IsOutlasting spans i next) (other d : Span) → next < length spans → get_or spans next d ≡ other → MatchBool (ltb other.from (get_or spans i d).to) (IsCrossed spans i) (IsCrossed spans i → ⊥)
crossed_test spans ordered i next is other d within here =
    subst (λ (o : Span). MatchBool (ltb o.from (get_or spans i d).to) (IsCrossed spans i) (IsCrossed spans i → ⊥)) here
    (crossed_when spans ordered i next is d within (ltb (get_or spans next d).from (get_or spans i d).to) refl)

-- nothing crosses it where none ends behind it
pub crossed_never : (spans : List Span) (ordered : AllPairs ComesBefore spans) (i next : ℕ) → IsOutlasting spans i next → length spans ≤ next → IsCrossed spans i → ⊥
crossed_never spans ordered i next is past = not_crossed spans ordered i next is (λ d within. absurd (omega arith))
