-- The order in which the members stand, and the stretch of those with one key.
use Rattle.std.proofs.Common.{◌≡◌, ◌↔◌, ℕ, zero, suc, ◌+◌, ◌-◌, ◌<◌, ◌≤◌, Bool, true, false, Option, Some, List, [], ◌∷◌, ◌++◌, length, map, leb, eqb, leb-true, get_or, take, drop, inl, inr, sym, refl, ap, subst, ◌∙◌, arith}
use Rattle.std.proofs.lemmas.Bool.{cases_lt, eqb-true, eqb-false}
use Rattle.std.proofs.lemmas.Cmp.{on_total, then_total, nat_cmp_total, nat_list_cmp_total, tied_itself, ranked, by_ranked}
use Rattle.std.proofs.lemmas.List.{get_or-take, get_or-drop, length-take, length-drop}
use Rattle.std.proofs.lemmas.List.FromFn.{map-range_with_len_more, get_or-range_with_len, length-range_with_len}
use Rattle.std.proofs.lemmas.List.Sorted.{searchable_from_sorted, Contains-permutation, All-permutation}
use Rattle.std.proofs.lemmas.Map.Keys.{IsDistinct-IsPermutation, IsDistinct-from_apart, apart_from_distinct, ge_from_not_lt}
use Rattle.std.proofs.lemmas.Map.Text.{is_eq-slice_cmp}
use Rattle.std.proofs.lemmas.Slice.Eq.{bytes_eq-Decides}
use Rattle.std.proofs.lemmas.Bool.Decides.{nat_tests}
use Rattle.std.specs.Bool.{Decides}
use Rattle.std.specs.Str.{bytes_eq}
use Rattle.std.proofs.lemmas.Option.{slice_get_within, get_or_from_slice_get}
use Rattle.std.specs.Cmp.{IsTotalOrder}
use Rattle.dc_base.specs.declared.names.TypeId.{TypeId}
use Rattle.std.specs.Cmp.Lexicographic.{slice_cmp}
use Rattle.std.specs.declared.cmp.Ordering.{Ordering}
use Rattle.std.specs.declared.cmp.Ordering.TheVariants.{Less, Equal, Greater}
use Rattle.std.specs.List.{range_with_len, slice_get, All, Contains, IsDistinct}
use Rattle.std.specs.List.Sorted.{IsPartitionPoint, IsNonDecreasingBy, IsStrictlyIncreasing}
use Rattle.std.specs.Ordering.{nat_cmp, is_lt, is_le, is_eq, ordering_then, ordering_index}
use Rattle.class_rows.specs.declared.row.MemberRow.{MemberRow}
use Rattle.class_rows.specs.Members.{IsOf, known_as}
use Rattle.class_index.specs.Index.{IsKnownSo, AreApart}
use Rattle.class_index.specs.Order.{key_at, key_of, key_cmp, order_cmp, IsIndex, key_place, owner_place, IsPlaceOf}

map_same : (xs : List ℕ) → map (λ (x : ℕ). x) xs ≡ xs
map_same [] = refl
map_same (x ∷ xs) = ap (λ ys. x ∷ ys) (map_same xs)

pub range_more : (n : ℕ) → range_with_len 0 (n + 1) ≡ range_with_len 0 n ++ (n ∷ [])
range_more n =
    sym (map_same (range_with_len 0 (n + 1)))
    ∙ map-range_with_len_more (λ x. x) 0 n n (omega arith)
    ∙ ap (λ ys. ys ++ (n ∷ [])) (map_same (range_with_len 0 n))

pub key_total : IsTotalOrder key_cmp
key_total = then_total (on_total (λ (p : ℕ × List ℕ). p.0) nat_cmp_total) (on_total (λ (p : ℕ × List ℕ). p.1) nat_list_cmp_total)

pub order_total : (members : List MemberRow) → IsTotalOrder (order_cmp members)
order_total members = then_total (on_total (key_of members) key_total) nat_cmp_total

-- what answers of the two halves say
pub is_lt_place : (o : Ordering) → is_lt o ≡ leb (ordering_index o) 0
is_lt_place Less = refl
is_lt_place Equal = refl
is_lt_place Greater = refl

pub is_le_place : (o : Ordering) → is_le o ≡ leb (ordering_index o) 1
is_le_place Less = refl
is_le_place Equal = refl
is_le_place Greater = refl

first_not_less : (a b : Ordering) → is_lt (ordering_then a b) ≡ false → is_lt a ≡ false
first_not_less Less b h = h
first_not_less Equal b h = refl
first_not_less Greater b h = refl

second_not_less : (a b : Ordering) → a ≡ Equal → is_lt (ordering_then a b) ≡ false → is_lt b ≡ false
second_not_less a b e h = let k : is_lt (ordering_then Equal b) ≡ false = subst (λ o. is_lt (ordering_then o b) ≡ false) e h in k

place_equal : (o : Ordering) → ordering_index o ≡ 1 → o ≡ Equal
place_equal Less h = let k : zero ≡ suc zero = h in cc
place_equal Equal h = refl
place_equal Greater h = let k : suc (suc zero) ≡ suc zero = h in absurd (omega (arith, k))

-- the members stand by their keys
pub key_rises : (members : List MemberRow) (order : List ℕ) (t : ℕ) (name : List ℕ) → IsIndex members order → IsNonDecreasingBy (key_place members t name) order
key_rises members order t name index =
    searchable_from_sorted key_total (key_of members) order (t, name)
    (λ k d low high. first_not_less _ _ (index.sorted k d low high))

not_leb : (m n : ℕ) → leb m n ≡ false → n < m
not_leb m n h = elim (cases_lt n m) [
  | inl lt ↦ lt
  | inr le ↦ absurd (grind (arith))
]

pub place_of_point : (place : ℕ → ℕ) (most : ℕ) (order : List ℕ) (end : ℕ) → end ≤ length order → IsPartitionPoint (λ n. leb (place n) most ≡ true) (λ n. leb (place n) most ≡ false) order end → IsPlaceOf place most order end
place_of_point place most order end le point = record {
  within = le;
  below = λ k d low high. leb-true _ _ (point.0 k d low high);
  above = λ k d low high. not_leb _ _ (point.1 k d low high);
}

-- the order holds each number of a member, once
range_all : (n : ℕ) → All (λ (m : ℕ). m < n) (range_with_len 0 n)
range_all n k d lt =
    let short : k < n = omega (arith, length-range_with_len 0 n, lt) in
    let e : get_or (range_with_len 0 n) k d ≡ 0 + k = get_or-range_with_len 0 n k d short in
    omega (arith, e, short)

order_within : (members : List MemberRow) (order : List ℕ) → IsIndex members order → All (λ (m : ℕ). m < length members) order
order_within members order index = All-permutation (λ m. m < length members) _ order index.all (range_all (length members))

range_has : (n m : ℕ) → m < n → Contains (range_with_len 0 n) m
range_has n m lt = (m, omega (arith, length-range_with_len 0 n), get_or-range_with_len 0 n m m lt ∙ omega arith)

order_has : (members : List MemberRow) (order : List ℕ) → IsIndex members order → (m : ℕ) → m < length members → Contains order m
order_has members order index m lt = Contains-permutation _ order m index.all (range_has (length members) m lt)

flips : (x y : ℕ) → eqb x y ≡ eqb y x
flips x y = grind (arith, nat_tests)

not_eqb : (x y : ℕ) → (x ≡ y → ⊥) → eqb x y ≡ false
not_eqb x y apart = elim (eqb x y) as (λ b. eqb x y ≡ b → b ≡ false) [
  | true ↦ λ e. absurd (apart (eqb-true x y e))
  | false ↦ λ e. refl
] refl

range_apart : (n i j d : ℕ) → i < j → j < length (range_with_len 0 n) → eqb (get_or (range_with_len 0 n) i d) (get_or (range_with_len 0 n) j d) ≡ false
range_apart n i j d lt within =
    let long = length-range_with_len 0 n in
    let a : get_or (range_with_len 0 n) i d ≡ 0 + i = get_or-range_with_len 0 n i d (omega (arith, long)) in
    let b : get_or (range_with_len 0 n) j d ≡ 0 + j = get_or-range_with_len 0 n j d (omega (arith, long)) in
    not_eqb _ _ (λ e. absurd (omega (arith, a, b, e)))

order_apart : (members : List MemberRow) (order : List ℕ) → IsIndex members order → IsDistinct eqb order
order_apart members order index = IsDistinct-IsPermutation eqb flips _ order index.all (IsDistinct-from_apart eqb _ (range_apart (length members)))

-- two keys are one
then_first : (a b : Ordering) → ordering_then a b ≡ Equal → a ≡ Equal
then_first Less b h = h
then_first Equal b h = refl
then_first Greater b h = h

then_second : (a b : Ordering) → ordering_then a b ≡ Equal → b ≡ Equal
then_second Less b h = let k : Less ≡ Equal = h in cc
then_second Equal b h = h
then_second Greater b h = let k : Greater ≡ Equal = h in cc

same_number : (x y : ℕ) → nat_cmp x y ≡ Equal → x ≡ y
same_number x y h = by_ranked (x < y) (x ≡ y) (y < x) (nat_cmp x y) (ranked x y (nat_cmp x y) refl) (λ e lt. let k : Less ≡ Equal = sym e ∙ h in cc) (λ e same. same) (λ e gt. let k : Greater ≡ Equal = sym e ∙ h in cc)

same_bytes : (xs ys : List ℕ) (b : Bool) → Decides b (xs ≡ ys) → b ≡ true → xs ≡ ys
same_bytes xs ys b d h = d.0 h

same_text : (xs ys : List ℕ) → slice_cmp nat_cmp xs ys ≡ Equal → xs ≡ ys
same_text xs ys h =
    let same : bytes_eq xs ys ≡ true = sym (is_eq-slice_cmp xs ys) ∙ ap is_eq h in
    same_bytes xs ys (bytes_eq xs ys) (bytes_eq-Decides xs ys) same

alike_keys : (a b c : ℕ × List ℕ) → (a.0 ≡ c.0) × (a.1 ≡ c.1) → (b.0 ≡ c.0) × (b.1 ≡ c.1) → key_cmp a b ≡ Equal
alike_keys a b c p q =
    let e : a.0 ≡ b.0 = p.0 ∙ sym q.0 in
    let f : a.1 ≡ b.1 = p.1 ∙ sym q.1 in
    let P : ℕ → Type 0 = λ n. key_cmp a (n, b.1) ≡ Equal in
    subst P e (let Q : List ℕ → Type 0 = λ s. key_cmp a (a.0, s) ≡ Equal in subst Q f (tied_itself key_total a))

-- a member's key is that of its row
place_one : (a b : ℕ × List ℕ) → ordering_index (key_cmp a b) ≡ 1 → (a.0 ≡ b.0) × (a.1 ≡ b.1)
place_one a b h =
    let e = place_equal (key_cmp a b) h in
    let first : nat_cmp a.0 b.0 ≡ Equal = then_first (nat_cmp a.0 b.0) (slice_cmp nat_cmp a.1 b.1) e in
    let second : slice_cmp nat_cmp a.1 b.1 ≡ Equal = then_second (nat_cmp a.0 b.0) (slice_cmp nat_cmp a.1 b.1) e in
    (same_number a.0 b.0 first, same_text a.1 b.1 second)

at_row : (members : List MemberRow) (n : ℕ) → n < length members → (row : MemberRow) × (slice_get members n ≡ Some row)
at_row [] n lt = absurd (omega arith)
at_row (row ∷ members) zero lt = (row, refl)
at_row (row ∷ members) (suc n) lt = at_row members n (omega arith)

known_from_key : (members : List MemberRow) (t : ℕ) (name : List ℕ) (n : ℕ) → n < length members → key_place members t name n ≡ 1 → IsKnownSo members t name n
known_from_key members t name n lt h =
    let at = at_row members n lt in
    let both = place_one (key_of members n) (t, name) h in
    let same : key_of members n ≡ key_at (Some at.0) = ap key_at at.1 in
    let owner : at.0.owner.0 ≡ t = sym (ap (λ (k : ℕ × List ℕ). k.0) same) ∙ both.0 in
    let known : known_as at.0 ≡ name = sym (ap (λ (k : ℕ × List ℕ). k.1) same) ∙ both.1 in
    record { row = at.0; stands = at.1; is = (ap (λ (o : ℕ). record { 0 = o }) owner, known) }

key_from_known : (members : List MemberRow) (t : ℕ) (name : List ℕ) (n : ℕ) → IsKnownSo members t name n → key_place members t name n ≡ 1
key_from_known members t name n known =
    let owner : known.row.owner.0 ≡ t = ap (λ (o : TypeId). o.0) known.is.0 in
    let named : known_as known.row ≡ name = known.is.1 in
    let P : Option MemberRow → Type 0 = λ o. ordering_index (key_cmp (key_at o) (t, name)) ≡ 1 in
    subst P (sym known.stands)
    (let Q : ℕ → Type 0 = λ o. ordering_index (key_cmp (known.row.owner.0, known_as known.row) (o, name)) ≡ 1 in
    subst Q owner
    (let R : List ℕ → Type 0 = λ s. ordering_index (key_cmp (known.row.owner.0, known_as known.row) (known.row.owner.0, s)) ≡ 1 in
    subst R named (ap ordering_index (tied_itself key_total (known.row.owner.0, known_as known.row)))))

-- the same for its owner alone
pub owner_rises : (members : List MemberRow) (order : List ℕ) (t : ℕ) → IsIndex members order → IsNonDecreasingBy (owner_place members t) order
owner_rises members order t index =
    searchable_from_sorted nat_cmp_total (λ (n : ℕ). (key_of members n).0) order t
    (λ k d low high. first_not_less _ _ (first_not_less _ _ (index.sorted k d low high)))

owned_from_place : (members : List MemberRow) (t n : ℕ) → n < length members → owner_place members t n ≡ 1 → IsOf members t n
owned_from_place members t n lt h =
    let at = at_row members n lt in
    let same : (key_of members n).0 ≡ at.0.owner.0 = ap (λ (o : Option MemberRow). (key_at o).0) at.1 in
    let owner : at.0.owner.0 ≡ t = sym same ∙ same_number (key_of members n).0 t (place_equal (nat_cmp (key_of members n).0 t) h) in
    record { row = at.0; stands = at.1; is = ap (λ (o : ℕ). record { 0 = o }) owner }

place_from_owned : (members : List MemberRow) (t n : ℕ) → IsOf members t n → owner_place members t n ≡ 1
place_from_owned members t n owned =
    let owner : owned.row.owner.0 ≡ t = ap (λ (o : TypeId). o.0) owned.is in
    let P : Option MemberRow → Type 0 = λ o. ordering_index (nat_cmp (key_at o).0 t) ≡ 1 in
    let Q : ℕ → Type 0 = λ o. ordering_index (nat_cmp owned.row.owner.0 o) ≡ 1 in
    subst P (sym owned.stands) (subst Q owner (ap ordering_index (tied_itself nat_cmp_total owned.row.owner.0)))

-- from `start` up to `end` stand the members at this place
module _ (members : List MemberRow) (order : List ℕ) (index : IsIndex members order) (place : ℕ → ℕ) (start end : ℕ) (from_ : IsPlaceOf place 0 order start) (to_ : IsPlaceOf place 1 order end) where
  stretch_long : length (take (end - start) (drop start order)) ≡ end - start
  stretch_long = length-take (end - start) (drop start order) ∙ omega (arith, length-drop start order, to_.within)

  stretch_at : (k d : ℕ) → k < end - start → get_or (take (end - start) (drop start order)) k d ≡ get_or order (start + k) d
  stretch_at k d lt = get_or-take (end - start) (drop start order) k d lt ∙ get_or-drop start order k d

  stretch_place : (k d : ℕ) → k < end - start → place (get_or order (start + k) d) ≡ 1
  stretch_place k d lt = omega (arith, from_.above (start + k) d (omega arith) (omega (arith, to_.within)), to_.below (start + k) d (omega arith) (omega arith))

  in_stretch : (m : ℕ) → Contains (take (end - start) (drop start order)) m → (m < length members) × (place m ≡ 1)
  in_stretch m has =
      let lt : has.0 < end - start = omega (arith, stretch_long, has.1) in
      let e : get_or order (start + has.0) m ≡ m = sym (stretch_at has.0 m lt) ∙ has.2 in
      let in_ : get_or order (start + has.0) m < length members = order_within members order index (start + has.0) m (omega (arith, to_.within)) in
      (omega (arith, e, in_), subst (λ (n : ℕ). place n ≡ 1) e (stretch_place has.0 m lt))

  stretch_has : (m : ℕ) → m < length members → place m ≡ 1 → Contains (take (end - start) (drop start order)) m
  stretch_has m within one =
      let has = order_has members order index m within in
      let place_ : place (get_or order has.0 m) ≡ 1 = subst (λ (n : ℕ). place n ≡ 1) (sym has.2) one in
      let low : start ≤ has.0 = elim (cases_lt has.0 start) [
        | inl lt ↦ absurd (omega (arith, from_.below has.0 m (omega arith) lt, place_))
        | inr le ↦ le
      ] in
      let high : has.0 < end = elim (cases_lt has.0 end) [
        | inl lt ↦ lt
        | inr le ↦ absurd (omega (arith, to_.above has.0 m le has.1, place_))
      ] in
      let short : has.0 - start < end - start = omega arith in
      let there : start + (has.0 - start) ≡ has.0 = omega arith in
      (has.0 - start, omega (arith, stretch_long, short), stretch_at (has.0 - start) m short ∙ ap (λ (k : ℕ). get_or order k m) there ∙ has.2)

-- a stretch of the order has no number twice
stretch_once : (members : List MemberRow) (order : List ℕ) (index : IsIndex members order) (start end : ℕ) → end ≤ length order → (j k m : ℕ) → j < k → k < end - start → get_or order (start + j) m ≡ m → get_or order (start + k) m ≡ m → ⊥
stretch_once members order index start end le j k m lt within p q =
    let apart = apart_from_distinct eqb order (start + j) (start + k) m (order_apart members order index) (omega (arith, lt)) (omega (arith, within, le)) in
    eqb-false (get_or order (start + j) m) (get_or order (start + k) m) apart (p ∙ sym q)

pub owned_apart : (members : List MemberRow) (order : List ℕ) (t : ℕ) (index : IsIndex members order) (start end : ℕ) → IsPlaceOf (owner_place members t) 0 order start → IsPlaceOf (owner_place members t) 1 order end → AreApart (take (end - start) (drop start order))
owned_apart members order t index start end from_ to_ j k m p q =
    let own = take (end - start) (drop start order) in
    let long : length own ≡ end - start = stretch_long members order index (owner_place members t) start end from_ to_ in
    let j_in : j < end - start = omega (arith, long, slice_get_within own j m p) in
    let k_in : k < end - start = omega (arith, long, slice_get_within own k m q) in
    let a : get_or order (start + j) m ≡ m = sym (stretch_at members order index (owner_place members t) start end from_ to_ j m j_in) ∙ get_or_from_slice_get own j m m p in
    let b : get_or order (start + k) m ≡ m = sym (stretch_at members order index (owner_place members t) start end from_ to_ k m k_in) ∙ get_or_from_slice_get own k m m q in
    elim (cases_lt j k) [
      | inl less ↦ absurd (stretch_once members order index start end to_.within j k m less k_in a b)
      | inr ge ↦ elim (cases_lt k j) [
        | inl more ↦ absurd (stretch_once members order index start end to_.within k j m more j_in b a)
        | inr le ↦ omega (arith, ge, le)
      ]
    ]

pub owned_stretch : (members : List MemberRow) (order : List ℕ) (t : ℕ) (index : IsIndex members order) (start end : ℕ) → IsPlaceOf (owner_place members t) 0 order start → IsPlaceOf (owner_place members t) 1 order end → (m : ℕ) → Contains (take (end - start) (drop start order)) m ↔ IsOf members t m
owned_stretch members order t index start end from_ to_ m = (
  λ has. let at = in_stretch members order index (owner_place members t) start end from_ to_ m has in owned_from_place members t m at.0 at.1,
  λ owned. stretch_has members order index (owner_place members t) start end from_ to_ m (slice_get_within members m owned.row owned.stands) (place_from_owned members t m owned),
)

module _ (members : List MemberRow) (order : List ℕ) (t : ℕ) (name : List ℕ) (index : IsIndex members order) (start end : ℕ) (from_ : IsPlaceOf (key_place members t name) 0 order start) (to_ : IsPlaceOf (key_place members t name) 1 order end) where
  pub exact_stretch : (m : ℕ) → Contains (take (end - start) (drop start order)) m ↔ IsKnownSo members t name m
  exact_stretch m = (
    λ has. let at = in_stretch members order index (key_place members t name) start end from_ to_ m has in known_from_key members t name m at.0 at.1,
    λ known. stretch_has members order index (key_place members t name) start end from_ to_ m (slice_get_within members m known.row known.stands) (key_from_known members t name m known),
  )

  pub rising_stretch : IsStrictlyIncreasing (take (end - start) (drop start order))
  rising_stretch k lt =
      let place : ℕ → ℕ = key_place members t name in
      let long : length (take (end - start) (drop start order)) ≡ end - start = stretch_long members order index place start end from_ to_ in
      let more : k + 1 < end - start = omega (arith, long, lt) in
      let less : k < end - start = omega (arith, more) in
      let before_end : (start + k) + 1 < length order = omega (arith, more, to_.within) in
      let x : ℕ = get_or order (start + k) 0 in
      let y : ℕ = get_or order (start + (k + 1)) 0 in
      let a : get_or (take (end - start) (drop start order)) k 0 ≡ x = stretch_at members order index place start end from_ to_ k 0 less in
      let b : get_or (take (end - start) (drop start order)) (k + 1) 0 ≡ y = stretch_at members order index place start end from_ to_ (k + 1) 0 more in
      let low = place_one (key_of members x) (t, name) (stretch_place members order index place start end from_ to_ k 0 less) in
      let high = place_one (key_of members y) (t, name) (stretch_place members order index place start end from_ to_ (k + 1) 0 more) in
      let one : (start + k) + 1 ≡ start + (k + 1) = omega arith in
      let up : is_lt (order_cmp members (get_or order ((start + k) + 1) 0) x) ≡ false = index.sorted (start + k) 0 (omega arith) before_end in
      let up_ : is_lt (order_cmp members y x) ≡ false = subst (λ (j : ℕ). is_lt (order_cmp members (get_or order j 0) x) ≡ false) one up in
      let le : x ≤ y = ge_from_not_lt y x (second_not_less (key_cmp (key_of members y) (key_of members x)) (nat_cmp y x) (alike_keys (key_of members y) (key_of members x) (t, name) high low) up_) in
      let apart : x ≡ y → ⊥ = eqb-false x y (apart_from_distinct eqb order (start + k) (start + (k + 1)) 0 (order_apart members order index) (omega arith) (omega (arith, before_end))) in
      elim (cases_lt x y) [
        | inl lt_ ↦ omega (arith, a, b, lt_)
        | inr ge ↦ absurd (apart (omega (arith, le, ge)))
      ]
