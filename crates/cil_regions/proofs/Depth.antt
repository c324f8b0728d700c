-- How deep a region stands.
use Rattle.std.proofs.Common.{◌≡◌, ℕ, zero, suc, ◌+◌, ◌<◌, ◌≤◌, Bool, true, false, cond, List, [], ◌∷◌, length, get_or, inl, inr, sym, refl, ap, ◌∙◌, arith}
use Rattle.std.proofs.lemmas.Bool.{cases_Bool, both_ways, false_from_ne_true}
use Rattle.std.proofs.lemmas.List.Sums.{sum_by-cons}
use Rattle.std.specs.List.{AllPairs, count_by}
use Rattle.cil_regions.specs.declared.region.Span.{Span}
use Rattle.cil_regions.specs.Region.{is_inside, AreLaminar, depth_of}
use Rattle.cil_regions.specs.Laid.{AreLaid}
use Rattle.cil_regions.proofs.Inside.{inside_trans, inside_asym}
use Rattle.cil_regions.proofs.Nested.{inside_later, holder_before, holder_cases}

abbrev one : Bool → ℕ
one b = cond b 1 0

count-cons : {X : Type 0} (f : X → Bool) (x : X) (xs : List X) → count_by f (x ∷ xs) ≡ cond (f x) 1 0 + count_by f xs
count-cons f x xs = sum_by-cons (λ y. cond (f y) 1 0) x xs

count_same : {X : Type 0} (f g : X → Bool) (d : X) (xs : List X) → ((i : ℕ) → i < length xs → f (get_or xs i d) ≡ g (get_or xs i d)) → count_by f xs ≡ count_by g xs
count_same f g d [] h = refl
count_same f g d (x ∷ xs) h =
    let rest = count_same f g d xs (λ i lt. h (suc i) (omega arith)) in
    let first = ap one (h 0 (omega arith)) in
    omega (arith, rest, first, count-cons f x xs, count-cons g x xs)

-- two tests that differ at one place alone
count_once :
    {X : Type 0} (f g : X → Bool) (d : X) (xs : List X) (p : ℕ) → p < length xs → ((i : ℕ) → i < length xs → (i ≡ p → ⊥) → f (get_or xs i d) ≡ g (get_or xs i d)) → f (get_or xs p d) ≡ true → g (get_or xs p d) ≡ false
    → count_by f xs ≡ count_by g xs + 1
count_once f g d [] p lt h t e = absurd (omega arith)
count_once f g d (x ∷ xs) zero lt h t e =
    let rest = count_same f g d xs (λ i within. h (suc i) (omega arith) (λ is. omega (arith, is))) in
    let yes' = ap one t in
    let none = ap one e in
    omega (arith, rest, yes', none, count-cons f x xs, count-cons g x xs)
count_once f g d (x ∷ xs) (suc p) lt h t e =
    let rest = count_once f g d xs p (omega arith) (λ i within ne. h (suc i) (omega arith) (λ is. ne (omega (arith, is)))) t e in
    let first = ap one (h 0 (omega arith) (λ is. omega (arith, is))) in
    omega (arith, rest, first, count-cons f x xs, count-cons g x xs)

count_none : {X : Type 0} (f : X → Bool) (d : X) (xs : List X) → ((i : ℕ) → i < length xs → f (get_or xs i d) ≡ false) → count_by f xs ≡ 0
count_none f d [] h = refl
count_none f d (x ∷ xs) h =
    let rest = count_none f d xs (λ i lt. h (suc i) (omega arith)) in
    let first = ap one (h 0 (omega arith)) in
    omega (arith, rest, first, count-cons f x xs)

module _ (spans : List Span) (laid : AreLaid spans) (laminar : AllPairs AreLaminar spans) where
  -- the whole code stands inside no region
  pub depth_first : (d : Span) → depth_of spans (get_or spans 0 d) ≡ 0
  depth_first d =
      count_none (is_inside (get_or spans 0 d)) d spans
      (λ i lt. false_from_ne_true (is_inside (get_or spans 0 d) (get_or spans i d)) (λ t. omega (arith, holder_before spans laid laminar i 0 d lt laid.some t)))

  -- another one inside one region more than its parent
  pub depth_more :
      (k p : ℕ) (d : Span) → 0 < k → k < length spans → p < k → (get_or spans k d).from < (get_or spans p d).to → ((i : ℕ) → p < i → i < k → (get_or spans i d).to ≤ (get_or spans k d).from)
      → depth_of spans (get_or spans k d) ≡ depth_of spans (get_or spans p d) + 1
  depth_more k p d pos within before over last =
      let up = inside_later spans laid laminar p k d before within over in
      count_once (is_inside (get_or spans k d)) (is_inside (get_or spans p d)) d spans p (omega arith)
      (λ i lt ne. elim (cases_Bool (is_inside (get_or spans p d) (get_or spans i d))) [
        | inl t ↦ inside_trans (get_or spans k d) (get_or spans p d) (get_or spans i d) up t ∙ sym t
        | inr f ↦
            false_from_ne_true (is_inside (get_or spans k d) (get_or spans i d))
            (λ t. elim (holder_cases spans laid laminar k p d pos within before over last i lt t) [
              | inl is ↦ ne is
              | inr outer ↦ both_ways (is_inside (get_or spans p d) (get_or spans i d)) f outer.1
            ])
            ∙ sym f
      ])
      up
      (false_from_ne_true (is_inside (get_or spans p d) (get_or spans p d)) (λ t. inside_asym (get_or spans p d) (get_or spans p d) t t))
