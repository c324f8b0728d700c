-- Least maps: facts below every map stay so where one that comes is united to them, and a map that is below every map is
-- the least.
use Rattle.std.proofs.Common.{◌≡◌, ◌⊎◌, inl, inr, ℕ, zero, suc, ◌+◌, ◌<◌, [], ◌∷◌, Option, Some, None, length, slice_get, refl, sym, ap, ◌∙◌, subst, arith}
use Rattle.std.proofs.lemmas.Bool.{cases_lt}
use Rattle.verify_slots.specs.Slots.{IsUnited}
use Rattle.verify_least.specs.Flow.{Flow, Facts, Has, Holds, IsMap, IsBelow, IsMonotone, Comes}

-- what is there
got : {A : Type 0} → Option A → A → A
got (Some a) d = a
got None d = d

pub some_same : {A : Type 0} (a b : A) → Some a ≡ Some b → a ≡ b
unfolding got
some_same {A} a b e = ap (λ (o : Option A). got o a) e

module _ {F : Type 0} where
  pub has_one : (facts : Facts F) (i : ℕ) (f g : F) → Has facts i f → Has facts i g → f ≡ g
  has_one facts i f g p q = some_same f g (some_same (Some f) (Some g) (sym p ∙ q))

  -- a fact is set for one instruction
  pub put : Facts F → ℕ → F → Facts F
  put [] i f = []
  put (o ∷ facts) zero f = Some f ∷ facts
  put (o ∷ facts) (suc i) f = o ∷ put facts i f

  pub put_length : (facts : Facts F) (i : ℕ) (f : F) → length (put facts i f) ≡ length facts
  unfolding put
  put_length [] i f = refl
  put_length (o ∷ facts) zero f = refl
  put_length (o ∷ facts) (suc i) f = ap suc (put_length facts i f)

  put_there : (facts : Facts F) (i : ℕ) (f g : F) → Has (put facts i f) i g → g ≡ f
  unfolding put
  put_there [] i f g h = cc
  put_there (o ∷ facts) zero f g h = some_same g f (some_same (Some g) (Some f) (sym h))
  put_there (o ∷ facts) (suc i) f g h = put_there facts i f g h

  put_other : (facts : Facts F) (i j : ℕ) (f : F) → (i ≡ j → ⊥) → slice_get (put facts i f) j ≡ slice_get facts j
  unfolding put
  put_other [] i j f ne = refl
  put_other (o ∷ facts) zero zero f ne = absurd (ne refl)
  put_other (o ∷ facts) zero (suc j) f ne = refl
  put_other (o ∷ facts) (suc i) zero f ne = refl
  put_other (o ∷ facts) (suc i) (suc j) f ne = put_other facts i j f (λ e. ne (ap suc e))

  pub put_cases : (facts : Facts F) (i j : ℕ) (u f : F) → Has (put facts j u) i f → Has facts i f ⊎ ((i ≡ j) × (f ≡ u))
  put_cases facts i j u f has =
      elim (cases_lt i j) [
        | inl lt ↦ inl (sym (put_other facts j i u (λ e. omega (arith, lt, e))) ∙ has)
        | inr ge ↦ elim (cases_lt j i) [
          | inl gt ↦ inl (sym (put_other facts j i u (λ e. omega (arith, gt, e))) ∙ has)
          | inr le ↦
              let at : i ≡ j = omega (arith, ge, le) in
              inr (at, put_there facts j u f (subst (λ (k : ℕ). Has (put facts j u) k f) at has))
        ]
      ]

module _ {F : Type 0} (flow : Flow F) (count : ℕ) (mono : IsMonotone flow) where
  -- what comes to an instruction from facts below every map is held by every map
  pub comes_below : (facts : Facts F) → IsBelow flow count facts → ((i : ℕ) (f : F) → Has facts i f → flow.Fine f) → (j : ℕ) (f : F) → Comes flow facts j f → (map : Facts F) → IsMap flow count map → Holds flow map j f
  comes_below facts below fine j f (inl enters) map is = is.entries j f enters
  comes_below facts below fine j f (inr given) map is =
      let held = below map is given.i given.before given.has in
      let there = is.accepted given.i held.0 held.1 in
      let less = mono.narrower given.i given.before held.0 there.0 (fine given.i given.before given.has) held.2 there.1 in
      let wide = there.2 j given.leads in
      let into : flow.In f there.0 = mono.through f less.0 there.0 (mono.one given.i given.before f less.0 given.gives less.1) less.3 in
      (wide.0, wide.1, mono.through f there.0 wide.0 into wide.2)

  -- where facts below every map give nothing, there is no map
  pub no_map : (facts : Facts F) → IsBelow flow count facts → ((i : ℕ) (f : F) → Has facts i f → flow.Fine f) → (i : ℕ) (f : F) → Has facts i f → ((left : F) → flow.Gives i f left → ⊥) → (map : Facts F) → IsMap flow count map → ⊥
  no_map facts below fine i f has none map is =
      let held = below map is i f has in
      let there = is.accepted i held.0 held.1 in
      let less = mono.narrower i f held.0 there.0 (fine i f has) held.2 there.1 in
      none less.0 less.1

  -- where what comes and the fact that is there are apart, there is no map
  pub apart_no_map : (facts : Facts F) → IsBelow flow count facts → ((i : ℕ) (f : F) → Has facts i f → flow.Fine f) → (j : ℕ) (f g : F) → Has facts j f → Comes flow facts j g → ((u : F) → flow.In f u → flow.In g u → ⊥) → (map : Facts F) → IsMap flow count map → ⊥
  apart_no_map facts below fine j f g has comes apart map is =
      let one = below map is j f has in
      let other = comes_below facts below fine j g comes map is in
      let same : other.0 ≡ one.0 = has_one map j other.0 one.0 other.1 one.1 in
      apart one.0 one.2 (subst (flow.In g) same other.2)

  -- what is put is held by every map
  put_below : (facts : Facts F) → IsBelow flow count facts → (j : ℕ) (u : F) → ((map : Facts F) → IsMap flow count map → Holds flow map j u) → IsBelow flow count (put facts j u)
  put_below facts below j u held map is i f has =
      elim (put_cases facts i j u f has) [
        | inl before ↦ below map is i f before
        | inr now ↦
            let h = held map is in
            (h.0, subst (λ (k : ℕ). Has map k h.0) (sym now.0) h.1, subst (λ (g : F). flow.In g h.0) (sym now.1) h.2)
      ]

  -- facts below every map stay so where one that comes is united to the one that is there
  pub united_below : (facts : Facts F) → IsBelow flow count facts → ((i : ℕ) (f : F) → Has facts i f → flow.Fine f) → (j : ℕ) (f g u : F) → Has facts j f → Comes flow facts j g → IsUnited flow.In f g u → IsBelow flow count (put facts j u)
  united_below facts below fine j f g u has comes united =
      put_below facts below j u (λ map is.
      let one = below map is j f has in
      let other = comes_below facts below fine j g comes map is in
      let same : other.0 ≡ one.0 = has_one map j other.0 one.0 other.1 one.1 in
      (one.0, one.1, united.least one.0 one.2 (subst (flow.In g) same other.2)))

  -- and where none is there, it is put
  pub put_comes : (facts : Facts F) → IsBelow flow count facts → ((i : ℕ) (f : F) → Has facts i f → flow.Fine f) → (j : ℕ) (g : F) → Comes flow facts j g → IsBelow flow count (put facts j g)
  put_comes facts below fine j g comes = put_below facts below j g (λ map is. comes_below facts below fine j g comes map is)

-- How far facts are from those of a map: a sum over instructions, of the height that is left.
module _ {F : Type 0} (height : F → F → ℕ) (top : F → ℕ) where
  pub rank : Option F → Option F → ℕ
  rank None o = 0
  rank (Some h) None = top h
  rank (Some h) (Some f) = height h f

  pub weigh : Facts F → Facts F → ℕ
  weigh [] facts = 0
  weigh (m ∷ map) [] = 0
  weigh (m ∷ map) (o ∷ facts) = rank m o + weigh map facts

  pub below_top : (h u : F) → height h u < top h → rank (Some h) (Some u) < rank (Some h) None
  unfolding rank
  below_top h u less = less

  pub below_height : (h f u : F) → height h u < height h f → rank (Some h) (Some u) < rank (Some h) (Some f)
  unfolding rank
  below_height h f u less = less

  -- where less is left for one instruction, less is left for all
  pub lighter : (map facts : Facts F) (j : ℕ) (h u : F) (o : Option F) → Has map j h → slice_get facts j ≡ Some o → rank (Some h) (Some u) < rank (Some h) o → weigh map (put facts j u) < weigh map facts
  unfolding put weigh
  lighter [] facts j h u o has there less = cc
  lighter (m ∷ map) [] j h u o has there less = cc
  lighter (m ∷ map) (p ∷ facts) zero h u o has there less =
      let at : m ≡ Some h = some_same m (Some h) has in
      let is : p ≡ o = some_same p o there in
      let low : rank m (Some u) < rank m p = subst (λ (x : Option F). rank x (Some u) < rank x p) (sym at) (subst (λ (x : Option F). rank (Some h) (Some u) < rank (Some h) x) (sym is) less) in
      omega (arith, low)
  lighter (m ∷ map) (p ∷ facts) (suc j) h u o has there less =
      let low = lighter map facts j h u o has there less in
      omega (arith, low)
