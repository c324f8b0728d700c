-- What fields own of the rows of Constant behind one.
use Rattle.std.proofs.Common.{◌≡◌, ◌≢◌, ◌⊎◌, ℕ, zero, suc, ◌+◌, ◌-◌, ◌*◌, ◌^◌, ◌<◌, ◌≤◌, min, Option, Some, None, List, [], ◌∷◌, length, replicate, inl, inr, refl, sym, ap, subst, ◌∙◌, arith}
use Rattle.std.proofs.Math.ListN.{set, length-set}
use Rattle.std.specs.List.{slice_get, slice_index_or}
use Rattle.std.proofs.lemmas.Bool.{cases_lt, lt-ltb, le-ltb, cond-true, cond-false}
use Rattle.std.proofs.lemmas.List.{length-replicate}
use Rattle.std.proofs.lemmas.Bool.Decides.{nat_tests}
use Rattle.std.proofs.Math.Dec.{ltb}
use Rattle.dc_base.specs.declared.names.Token.{Token}
use Rattle.cli_metadata.specs.declared.tables.Table.TheVariants as tables
use Rattle.cli_metadata.specs.Metadata.{Contents, rows_of, coded_of}
use Rattle.cli_constants.specs.Noted.{place_in, place_of, more, noted_at, noted}
use Rattle.cli_constants.specs.Owned.{constant_at, field_token, IsConstantOf, AreMany, over, one_more, passed, IsOwned, AreConstants}

-- ---- items of lists

at_set : {X : Type 0} (xs : List X) (i : ℕ) (v : X) (j : ℕ) (y : X) → slice_get (set xs i v) j ≡ Some y → ((j ≡ i) × (y ≡ v)) ⊎ ((j ≢ i) × (slice_get xs j ≡ Some y))
at_set [] i v j y h = let k : None ≡ Some y = h in absurd cc
at_set (x ∷ xs) zero v zero y h = inl (refl, cc)
at_set (x ∷ xs) zero v (suc j) y h = inr ((λ e. omega arith), h)
at_set (x ∷ xs) (suc i) v zero y h = inr ((λ e. omega arith), h)
at_set (x ∷ xs) (suc i) v (suc j) y h =
    elim (at_set xs i v j y h) [
      | inl p ↦ inl (ap suc p.0, p.1)
      | inr p ↦ inr ((λ e. p.0 (omega arith)), p.1)
    ]

set_over : {X : Type 0} (xs : List X) (i : ℕ) (v : X) → length xs ≤ i → set xs i v ≡ xs
set_over [] i v le = refl
set_over (x ∷ xs) zero v le = absurd (omega arith)
set_over {X} (x ∷ xs) (suc i) v le = ap (λ (ys : List X). x ∷ ys) (set_over xs i v (omega arith))

-- an index with an item is within
within : {X : Type 0} (xs : List X) (n : ℕ) (x : X) → slice_get xs n ≡ Some x → n < length xs
within [] n x h = let none : None ≡ Some x = h in absurd cc
within (y ∷ xs) zero x h = omega arith
within (y ∷ xs) (suc n) x h = omega (arith, within xs n x h)

item : {X : Type 0} (xs : List X) (n : ℕ) (d : X) → n < length xs → slice_get xs n ≡ Some (slice_index_or xs n d)
item [] n d lt = absurd (omega arith)
item (x ∷ xs) zero d lt = refl
item (x ∷ xs) (suc n) d lt = item xs n d (omega arith)

of_replicate : {X : Type 0} (n : ℕ) (x : X) (j : ℕ) (y : X) → slice_get (replicate n x) j ≡ Some y → y ≡ x
of_replicate zero x j y h = let none : None ≡ Some y = h in absurd cc
of_replicate (suc n) x zero y h = let e : Some x ≡ Some y = h in cc
of_replicate (suc n) x (suc j) y h = of_replicate n x j y h

pub same_pair : (a b : ℕ × ℕ) → b.0 ≡ a.0 → b.1 ≡ a.1 → b ≡ a
same_pair a b p q =
    let left : (b.0, b.1) ≡ (a.0, b.1) = ap (λ (n : ℕ). (n, b.1)) p in
    let right : (a.0, b.1) ≡ (a.0, a.1) = ap (λ (n : ℕ). (a.0, n)) q in
    left ∙ right

-- ---- places and tokens

place_there : (t j : ℕ) → place_in t ≡ Some j → t ≡ 0x04 * 2 ^ 24 + (j + 1)
place_there t j e = grind (arith, nat_tests)

place_back : (j : ℕ) → j + 1 < 2 ^ 24 → place_in (0x04 * 2 ^ 24 + (j + 1)) ≡ Some j
place_back j lt = grind (arith, nat_tests)

named : (p : Option Token) (j : ℕ) → place_of p ≡ Some j → p ≡ Some (field_token (j + 1))
named None j e = let none : None ≡ Some j = e in absurd cc
named (Some t) j e = ap (λ (n : ℕ). Some (record { 0 = n })) (place_there t.0 j e)

same_or_behind : (k r : ℕ) → k < r → (r ≡ k + 1) ⊎ (k + 1 < r)
same_or_behind k r lt = elim (cases_lt (k + 1) r) [
  | inl less ↦ inr less
  | inr le ↦ inl (omega (arith, lt, le))
]

-- ---- rows behind one

pub record IsFirstBehind (Is : ℕ → Type 0) (k n : ℕ) : Type 0 where
  pub holds : Is n
  pub least : (r : ℕ) → k < r → r < n → Is r → ⊥

pub record IsFrom (m : Contents) (f k : ℕ) (found : ℕ × ℕ) : Type 0 where
  pub count : AreMany (IsConstantOf m f) (rows_of m tables.Constant) (k + 1) found.0
  pub first : IsFirstBehind (IsConstantOf m f) k found.1 ⊎ (found.0 ≡ 0)
  pub room : found.0 + k ≤ rows_of m tables.Constant

pub record AreFrom (m : Contents) (k : ℕ) (constants : List (ℕ × ℕ)) : Type 0 where
  pub long : length constants ≡ rows_of m tables.Field
  pub each : (j : ℕ) (found : ℕ × ℕ) → slice_get constants j ≡ Some found → IsFrom m (j + 1) k found

pub none_from : (m : Contents) (n : ℕ) → n ≡ rows_of m tables.Field → (constants : List (ℕ × ℕ)) → constants ≡ replicate n (0, 0) → AreFrom m (rows_of m tables.Constant) constants
none_from m n same constants e = record {
  long = ap length e ∙ length-replicate n (0, 0) ∙ same;
  each = λ j found at.
      let zero_only : found ≡ (0, 0) = of_replicate n (0, 0) j found (subst (λ (xs : List (ℕ × ℕ)). slice_get xs j ≡ Some found) e at) in
      subst (λ (x : ℕ × ℕ). IsFrom m (j + 1) (rows_of m tables.Constant) x) (sym zero_only)
      (record { count = over (rows_of m tables.Constant + 1) (omega arith); first = inr refl; room = omega arith });
}

one_passed : (m : Contents) (f k : ℕ) (found : ℕ × ℕ) → (IsConstantOf m f (k + 1) → ⊥) → IsFrom m f (k + 1) found → IsFrom m f k found
one_passed m f k found not_it so = record {
  count = passed (k + 1) found.0 not_it so.count;
  first = elim so.first [
    | inl first ↦ inl (record {
      holds = first.holds;
      least = λ r lt less is.
          elim (same_or_behind k r lt) [
            | inl e ↦ not_it (subst (λ (x : ℕ). IsConstantOf m f x) e is)
            | inr behind ↦ first.least r behind less is
          ];
    })
    | inr none ↦ inr none
  ];
  room = omega (arith, so.room);
}

one_counted : (m : Contents) (f k : ℕ) (found : ℕ × ℕ) → rows_of m tables.Constant < 2 ^ 32 → IsConstantOf m f (k + 1) → IsFrom m f (k + 1) found → IsFrom m f k (more (k + 1) found)
one_counted m f k found few is so =
    let room = so.room in
    let e : min (found.0 + 1) (2 ^ 32 - 1) ≡ found.0 + 1 = omega arith in
    record {
      count = subst (λ (n : ℕ). AreMany (IsConstantOf m f) (rows_of m tables.Constant) (k + 1) n) (sym e) (one_more (k + 1) found.0 is so.count);
      first = inl (record { holds = is; least = λ r lt less is2. omega (arith, lt, less) });
      room = omega (arith, room, e);
    }

owned : (m : Contents) (f : ℕ) (found : ℕ × ℕ) → IsFrom m f 0 found → IsOwned m f found
owned m f found so = record {
  count = so.count;
  first = elim so.first [
    | inl first ↦ inl (record { holds = first.holds; least = λ r less is. let low = is.low in first.least r (omega (arith, low)) less is })
    | inr none ↦ inr none
  ];
}

noted_is_set : (r q : ℕ) (xs : List (ℕ × ℕ)) → noted_at r q xs ≡ set xs q (more r (slice_index_or xs q (0, 0)))
noted_is_set r q xs = elim (cases_lt q (length xs)) [
  | inl lt ↦ cond-true (ltb q (length xs)) (set xs q (more r (slice_index_or xs q (0, 0)))) xs (lt-ltb q (length xs) lt)
  | inr le ↦ cond-false (ltb q (length xs)) (set xs q (more r (slice_index_or xs q (0, 0)))) xs (le-ltb q (length xs) le) ∙ sym (set_over xs q (more r (slice_index_or xs q (0, 0))) le)
]

-- the place of the parent of row k + 1 tells of which row of Field it is
its_own : (m : Contents) (j k : ℕ) (p : Option Token) → k + 1 ≤ rows_of m tables.Constant → p ≡ coded_of (constant_at m (k + 1)).parent.kind (constant_at m (k + 1)).parent.cell → place_of p ≡ Some j → IsConstantOf m (j + 1) (k + 1)
its_own m j k p high is e = record { low = omega arith; high = high; parent = sym is ∙ named p j e }

not_its_own : (m : Contents) (j k : ℕ) (p : Option Token) → j + 1 < 2 ^ 24 → p ≡ coded_of (constant_at m (k + 1)).parent.kind (constant_at m (k + 1)).parent.cell → place_of p ≢ Some j → IsConstantOf m (j + 1) (k + 1) → ⊥
not_its_own m j k p few is not_there own =
    let e : p ≡ Some (field_token (j + 1)) = is ∙ own.parent in
    not_there (ap place_of e ∙ place_back j few)

stays : (m : Contents) (k : ℕ) (p : Option Token) (before : List (ℕ × ℕ)) → rows_of m tables.Field < 2 ^ 24 → p ≡ coded_of (constant_at m (k + 1)).parent.kind (constant_at m (k + 1)).parent.cell → AreFrom m (k + 1) before → (j : ℕ) (found : ℕ × ℕ) → slice_get before j ≡ Some found → place_of p ≢ Some j → IsFrom m (j + 1) k found
stays m k p before few is so j found at not_there =
    let less = within before j found at in
    let long = so.long in
    one_passed m (j + 1) k found (not_its_own m j k p (omega (arith, less, long, few)) is not_there) (so.each j found at)

set_one : (m : Contents) (k q : ℕ) (p : Option Token) (before after : List (ℕ × ℕ)) → rows_of m tables.Field < 2 ^ 24 → rows_of m tables.Constant < 2 ^ 32 → k + 1 ≤ rows_of m tables.Constant → p ≡ coded_of (constant_at m (k + 1)).parent.kind (constant_at m (k + 1)).parent.cell → place_of p ≡ Some q → after ≡ set before q (more (k + 1) (slice_index_or before q (0, 0))) → AreFrom m (k + 1) before → AreFrom m k after
set_one m k q p before after few_fields few high is there now so = record {
  long = ap length now ∙ length-set before q (more (k + 1) (slice_index_or before q (0, 0))) ∙ so.long;
  each = λ j found at.
      elim (at_set before q (more (k + 1) (slice_index_or before q (0, 0))) j found (subst (λ (xs : List (ℕ × ℕ)). slice_get xs j ≡ Some found) now at)) [
        | inl here ↦
            let less : j < length before = subst (λ (n : ℕ). j < n) (ap length now ∙ length-set before q (more (k + 1) (slice_index_or before q (0, 0)))) (within after j found at) in
            let e : q ≡ j = sym here.0 in
            let old : IsFrom m (j + 1) (k + 1) (slice_index_or before j (0, 0)) = so.each j (slice_index_or before j (0, 0)) (item before j (0, 0) less) in
            let own : IsConstantOf m (j + 1) (k + 1) = its_own m j k p high is (subst (λ (x : ℕ). place_of p ≡ Some x) e there) in
            let same : more (k + 1) (slice_index_or before j (0, 0)) ≡ found = sym (here.1 ∙ ap (λ (x : ℕ). more (k + 1) (slice_index_or before x (0, 0))) e) in
            subst (λ (x : ℕ × ℕ). IsFrom m (j + 1) k x) same (one_counted m (j + 1) k (slice_index_or before j (0, 0)) few own old)
        | inr other ↦ stays m k p before few_fields is so j found other.1 (λ e. let k2 : Some q ≡ Some j = sym there ∙ e in other.0 cc)
      ];
}

-- one more row is looked at
pub counted : (m : Contents) (k : ℕ) (p : Option Token) (before after : List (ℕ × ℕ)) → rows_of m tables.Field < 2 ^ 24 → rows_of m tables.Constant < 2 ^ 32 → k + 1 ≤ rows_of m tables.Constant → p ≡ coded_of (constant_at m (k + 1)).parent.kind (constant_at m (k + 1)).parent.cell → after ≡ noted (k + 1) (place_of p) before → AreFrom m (k + 1) before → AreFrom m k after
counted m k p before after few_fields few high is now so =
    elim (place_of p) as (λ o. place_of p ≡ o → after ≡ noted (k + 1) o before → AreFrom m k after) [
      | None ↦ λ none same. record {
        long = ap length same ∙ so.long;
        each = λ j found at. stays m k p before few_fields is so j found (subst (λ (xs : List (ℕ × ℕ)). slice_get xs j ≡ Some found) same at) (λ e. let k2 : None ≡ Some j = sym none ∙ e in cc);
      }
      | Some q ↦ λ there same. set_one m k q p before after few_fields few high is there (same ∙ noted_is_set (k + 1) q before) so
    ] refl now

-- all rows were looked at
pub counted_all : (m : Contents) (k : ℕ) (constants : List (ℕ × ℕ)) → k ≡ 0 → AreFrom m k constants → AreConstants m constants
counted_all m k constants none so =
    let all : AreFrom m 0 constants = subst (λ (n : ℕ). AreFrom m n constants) none so in
    record {
      long = all.long;
      each = λ j found at. owned m (j + 1) found (all.each j found at);
    }
