-- One more type in a set.
use Rattle.std.proofs.Common.{◌≡◌, ◌⊎◌, ℕ, zero, suc, ◌+◌, ◌-◌, ◌<◌, ◌≤◌, List, [], ◌∷◌, ◌++◌, length, take, drop, get_or, inl, inr, refl, sym, ap, ◌∙◌, subst, arith}
use Rattle.std.proofs.lemmas.Bool.{cases_lt}
use Rattle.std.proofs.lemmas.List.Elements.{Contains-append_left, Contains-append_right, Contains-append_cases}
use Rattle.std.proofs.Common.{length-append, length-drop}
use Rattle.std.proofs.Math.ListN.{length-take}
use Rattle.std.proofs.lemmas.List.{take_more}
use Rattle.std.specs.List.{Contains, insert, AllWithin, SameBelow}
use Rattle.std.specs.List.Sorted.{IsNonDecreasingBy, IsPartitionPoint}
use Rattle.std.specs.Cmp.{IsTotalOrder, alike_right}
use Rattle.std.specs.Ordering.{ordering_index, ordering_reverse}
use Rattle.std.specs.declared.cmp.Ordering.{Ordering}
use Rattle.std.specs.declared.cmp.Ordering.TheVariants.{Less, Equal, Greater}
use Rattle.dc_base.specs.declared.ty.Ty.{Ty}
use Rattle.dc_base.specs.contracts.ty.TyOrd.TheImpl as ty_order
use Rattle.dc_base.specs.contracts.ty.TyOrd.TheImpl.Laws.{total-law}
use Rattle.verify_slots.specs.Slots.{IsSubset, IsUnited}
use Rattle.verify_slots.specs.Sets.{IsSet, IsPut}

later : (x y : Ty) (xs : List Ty) → Contains xs y → Contains (x ∷ xs) y
later x y xs has = (suc has.0, omega (arith, has.1), has.2)

first_or : (x y : Ty) (xs : List Ty) → Contains (x ∷ xs) y → (x ≡ y) ⊎ Contains xs y
first_or x y xs (zero, lt, e) = inl e
first_or x y xs (suc k, lt, e) = inr (k, omega (arith, lt), e)

whole : (i : ℕ) (xs : List Ty) → take i xs ++ drop i xs ≡ xs
whole zero xs = refl
whole (suc i) [] = refl
whole (suc i) (x ∷ xs) = ap (λ (ys : List Ty). x ∷ ys) (whole i xs)

pub put_at : (xs : List Ty) (i : ℕ) (ty : Ty) → IsPut xs ty (insert xs i ty)
put_at xs i ty = record {
  kept = λ y has. elim (Contains-append_cases (take i xs) (drop i xs) y (subst (λ (zs : List Ty). Contains zs y) (sym (whole i xs)) has)) [
    | inl front ↦ Contains-append_left (take i xs) (ty ∷ drop i xs) y front
    | inr back ↦ Contains-append_right (take i xs) (ty ∷ drop i xs) y (later ty y (drop i xs) back)
  ];
  there = Contains-append_right (take i xs) (ty ∷ drop i xs) ty (0, omega arith, refl);
  least = λ zs sub has y at. elim (Contains-append_cases (take i xs) (ty ∷ drop i xs) y at) [
    | inl front ↦ sub y (subst (λ (ws : List Ty). Contains ws y) (whole i xs) (Contains-append_left (take i xs) (drop i xs) y front))
    | inr back ↦
        elim (first_or ty y (drop i xs) back) [
          | inl e ↦ subst (λ (x : Ty). Contains zs x) e has
          | inr rest ↦ sub y (subst (λ (ws : List Ty). Contains ws y) (whole i xs) (Contains-append_right (take i xs) (drop i xs) y rest))
        ]
  ];
}

pub put_there : (xs : List Ty) (ty : Ty) → Contains xs ty → IsPut xs ty xs
put_there xs ty has = record { kept = λ y h. h; there = has; least = λ zs sub h. sub }

module _ (cmp : Ty → Ty → Ordering) (o : IsTotalOrder cmp) where
  place_rises : (x y ty : Ty) → cmp x y ≡ Less → ordering_index (cmp x ty) ≤ ordering_index (cmp y ty)
  place_rises x y ty less = at (cmp y ty) refl
    where
      at : (r : Ordering) → cmp y ty ≡ r → ordering_index (cmp x ty) ≤ ordering_index r
      at Less e = let z : cmp x ty ≡ Less = o.trans x y ty less e in omega (arith, ap ordering_index z)
      at Equal e = let z : cmp x ty ≡ Less = sym (alike_right o y ty x e) ∙ less in omega (arith, ap ordering_index z)
      at Greater e = top (cmp x ty)
        where
          top : (r : Ordering) → ordering_index r ≤ 2
          top Less = omega arith
          top Equal = omega arith
          top Greater = omega arith

  pub places_rise : (xs : List Ty) (ty : Ty) → IsSet cmp xs → IsNonDecreasingBy (λ y. ordering_index (cmp y ty)) xs
  places_rise xs ty is i j d le lt = elim (cases_lt i j) [
    | inl less ↦ place_rises (get_or xs i d) (get_or xs j d) ty (is i j d less lt)
    | inr more ↦ let same : i ≡ j = omega (arith, le, more) in omega (arith, ap (λ k. ordering_index (cmp (get_or xs k d) ty)) same)
  ]

  turned : (x ty : Ty) → cmp x ty ≡ Greater → cmp ty x ≡ Less
  turned x ty e = o.antisymm ty x ∙ ap ordering_reverse e

  pub set_put : (xs zs : List Ty) (p : ℕ) (ty : Ty) → IsSet cmp xs → p ≤ length xs → length zs ≡ length xs + 1
      → AllWithin (λ y. cmp y ty ≡ Less) xs 0 p → AllWithin (λ y. cmp y ty ≡ Greater) xs p (length xs)
      → ((d : Ty) → get_or zs p d ≡ ty) → ((k : ℕ) (d : Ty) → k < p → get_or zs k d ≡ get_or xs k d)
      → ((k : ℕ) (d : Ty) → p < k → get_or zs k d ≡ get_or xs (k - 1) d) → IsSet cmp zs
  set_put xs zs p ty is within long below above there under over i j d lt end =
      elim (cases_lt j p) [
        | inl less ↦
            let lo : i < p = omega (arith, lt, less) in
            let a : j < length xs = omega (arith, less, within) in
            rw (under i d lo, under j d less) (is i j d lt a)
        | inr more ↦
            elim (cases_lt p j) [
              | inl past ↦ beyond past
              | inr at ↦
                  let same : j ≡ p = omega (arith, more, at) in
                  let lo : i < p = omega (arith, lt, same) in
                  let here : get_or zs j d ≡ ty = ap (λ k. get_or zs k d) same ∙ there d in
                  rw (under i d lo, here) (below i d (omega arith) lo)
            ]
      ]
    where
      beyond : p < j → cmp (get_or zs i d) (get_or zs j d) ≡ Less
      beyond past =
          let b : j - 1 < length xs = omega (arith, end, long, past) in
          elim (cases_lt i p) [
            | inl lo ↦
                rw (under i d lo, over j d past) (is i (j - 1) d (omega (arith, lo, past)) b)
            | inr hi ↦
                elim (cases_lt p i) [
                  | inl far ↦ rw (over i d far, over j d past) (is (i - 1) (j - 1) d (omega (arith, far, lt)) b)
                  | inr at ↦
                      let same : i ≡ p = omega (arith, hi, at) in
                      let here : get_or zs i d ≡ ty = ap (λ k. get_or zs k d) same ∙ there d in
                      rw (here, over j d past) (turned (get_or xs (j - 1) d) ty (above (j - 1) d (omega (arith, past)) b))
                ]
          ]

abbrev pub ty_cmp : Ty → Ty → Ordering
ty_cmp = (ty_order.cmp-value).it

-- a type is put where a search among ys, the items of the set, has found no equal
pub put_in_order : (xs ys zs : List Ty) (p : ℕ) (ty : Ty) → ys ≡ xs → p ≤ length ys
    → (IsNonDecreasingBy (λ y. ordering_index (ty_cmp y ty)) ys → IsPartitionPoint (λ y. ty_cmp y ty ≡ Less) (λ y. ty_cmp y ty ≡ Greater) ys p)
    → zs ≡ insert xs p ty
    → ((d : Ty) → get_or zs p d ≡ ty) → SameBelow xs zs p
    → ((k : ℕ) (d : Ty) → p < k → get_or zs k d ≡ get_or xs (k - 1) d) → IsSet ty_cmp xs → IsSet ty_cmp zs
put_in_order xs ys zs p ty e within parted items there under over is =
    let inside : p ≤ length xs = omega (arith, within, ap length e) in
    let long : length zs ≡ length xs + 1 = omega (arith, ap length items, length-append (take p xs) (ty ∷ drop p xs), length-take p xs, length-drop p xs, inside) in
    let total : IsTotalOrder ty_cmp = total-law in
    let at = subst (λ (ws : List Ty). IsNonDecreasingBy (λ y. ordering_index (ty_cmp y ty)) ws → IsPartitionPoint (λ y. ty_cmp y ty ≡ Less) (λ y. ty_cmp y ty ≡ Greater) ws p) e parted (places_rise ty_cmp total xs ty is) in
    set_put ty_cmp total xs zs p ty is inside long at.0 at.1 there under over

-- the set, with one more item of another list
pub union_more : (one other before after : List Ty) (i : ℕ) (d : Ty) → i < length other → IsUnited IsSubset one (take i other) before → IsPut before (get_or other i d) after → IsUnited IsSubset one (take (i + 1) other) after
union_more one other before after i d lt u put = rw (take_more other i d lt) record {
  left = λ y h. put.kept y (u.left y h);
  right = λ y h. elim (Contains-append_cases (take i other) (get_or other i d ∷ []) y h) [
    | inl front ↦ put.kept y (u.right y front)
    | inr back ↦
        elim (first_or (get_or other i d) y [] back) [
          | inl e ↦ subst (λ (x : Ty). Contains after x) e put.there
          | inr none ↦ absurd (omega (arith, none.1))
        ]
  ];
  least = λ zs sub more. put.least zs (u.least zs sub (λ y h. more y (Contains-append_left (take i other) (get_or other i d ∷ []) y h)))
      (more (get_or other i d) (Contains-append_right (take i other) (get_or other i d ∷ []) (get_or other i d) (0, omega arith, refl)));
}

pub union_none : (one other : List Ty) → IsUnited IsSubset one (take 0 other) one
union_none one other = record { left = λ y h. h; right = λ y h. absurd (omega (arith, h.1)); least = λ zs sub none. sub }
