-- Where each key stands first, among the first so many.
use Rattle.std.proofs.Common.{◌≡◌, ℕ, ◌+◌, ◌<◌, Bool, true, false, Some, None, List, [], ◌∷◌, ◌++◌, length, get_or, not, refl, sym, ◌∙◌, ap, subst, inl, inr, arith}
use Rattle.std.specs.Prelude.{◌||◌, if◌then◌else◌}
use Rattle.std.specs.Cmp.{IsEquivalence}
use Rattle.std.specs.List.{list_any, slice_get}
use Rattle.std.proofs.lemmas.Bool.{cases_lt}
use Rattle.std.proofs.lemmas.List.{length-append}
use Rattle.std.proofs.lemmas.List.Folds.{list_any-append}
use Rattle.std.proofs.lemmas.Map.Steps.{list_any_congr}
use Rattle.std.proofs.lemmas.Option.{slice_get_within}
use Rattle.indexmap.specs.IndexSet.{insert_key}
use Rattle.dc_causes.specs.First.{IsLeast}
use Rattle.class_keys.proofs.Items.{one_item, last_item, pushed_item, read_item}
use Rattle.class_keys.proofs.Found.{any_at}
use Rattle.class_keys.specs.Firsts.{IsAlsoAt, AreFirsts}

-- this index is the first of a key
pub record IsFirstOf {K : Type 0} (eq : K → K → Bool) (keys : List K) (f : ℕ) (key : K) : Type 0 where
  pub stands : slice_get keys f ≡ Some key
  pub none : (j : ℕ) (q : K) → j < f → slice_get keys j ≡ Some q → eq key q ≡ false

-- the keys that were seen, with their first indices
pub record AreSeen {K : Type 0} (eq : K → K → Bool) (keys : List K) (i : ℕ) (seen : List K) (places : List ℕ) : Type 0 where
  pub long : length places ≡ length seen
  pub noted : (p f : ℕ) (key : K) → slice_get places p ≡ Some f → slice_get seen p ≡ Some key → IsFirstOf eq keys f key
  pub all : (j : ℕ) (q : K) → j < i → slice_get keys j ≡ Some q → list_any (eq q) seen ≡ true

-- the first indices of the first so many keys
pub record AreNoted {K : Type 0} (eq : K → K → Bool) (keys : List K) (i : ℕ) (seen : List K) (places firsts : List ℕ) : Type 0 where
  pub so : AreSeen eq keys i seen places
  pub count : length firsts ≡ i
  pub first : (n f : ℕ) → slice_get firsts n ≡ Some f → IsLeast (IsAlsoAt eq keys n) f

differ : (a : Bool) → (a ≡ true → ⊥) → a ≡ false
differ true h = absurd (h refl)
differ false h = refl

pub none_noted : {K : Type 0} (eq : K → K → Bool) (keys seen : List K) (places firsts : List ℕ) → seen ≡ [] → places ≡ [] → firsts ≡ [] → AreNoted eq keys 0 seen places firsts
none_noted eq keys seen places firsts none no_places no_firsts = record {
  so = record {
    long = ap length no_places ∙ sym (ap length none);
    noted = λ p f key at stands. let e : None ≡ Some f = sym (ap (λ (xs : List ℕ). slice_get xs p) no_places) ∙ at in absurd cc;
    all = λ j q lt at. absurd (omega (arith, lt));
  };
  count = ap length no_firsts;
  first = λ n f at. let e : None ≡ Some f = sym (ap (λ (xs : List ℕ). slice_get xs n) no_firsts) ∙ at in absurd cc;
}

-- a key that hasn't been seen stands at no earlier index
not_before : {K : Type 0} (eq : K → K → Bool) → IsEquivalence eq → (keys seen : List K) (places : List ℕ) (i : ℕ) (key : K) → AreSeen eq keys i seen places → list_any (eq key) seen ≡ false → (j : ℕ) (q : K) → j < i → slice_get keys j ≡ Some q → eq key q ≡ false
not_before eq laws keys seen places i key so none j q lt at =
    differ (eq key q) (λ e.
    let both : true ≡ false = sym (so.all j q lt at) ∙ list_any_congr laws q key seen (laws.symm q key ∙ e) ∙ none in
    absurd cc)

seen_new : {K : Type 0} (eq : K → K → Bool) → IsEquivalence eq → (keys seen : List K) (places : List ℕ) (i : ℕ) (key : K) → slice_get keys i ≡ Some key → AreSeen eq keys i seen places → list_any (eq key) seen ≡ false → AreSeen eq keys (i + 1) (seen ++ (key ∷ [])) (places ++ (i ∷ []))
seen_new {K} eq laws keys seen places i key stands so none = record {
  long =
      let here = length-append places (i ∷ []) in
      let there = length-append seen (key ∷ []) in
      let long = so.long in
      omega (arith, here, there, long);
  noted = λ p f k at is. elim (pushed_item places i p f at) [
    | inl old ↦ elim (pushed_item seen key p k is) [
      | inl was ↦ so.noted p f k old was
      | inr new ↦ let lt = slice_get_within places p f old in let long = so.long in absurd (omega (arith, lt, long, new.0))
    ]
    | inr new ↦ elim (pushed_item seen key p k is) [
      | inl was ↦ let lt = slice_get_within seen p k was in let long = so.long in absurd (omega (arith, lt, long, new.0))
      | inr one ↦
          subst (λ (n : ℕ). IsFirstOf eq keys n k) (sym new.1) (subst (λ (q : K). IsFirstOf eq keys i q) (sym one.1)
          (record { stands = stands; none = not_before eq laws keys seen places i key so none }))
    ]
  ];
  all = λ j q lt at. elim (cases_lt j i) [
    | inl less ↦ list_any-append (eq q) seen (key ∷ []) ∙ ap (λ (b : Bool). b || list_any (eq q) (key ∷ [])) (so.all j q less at)
    | inr le ↦
        let same : key ≡ q = one_item keys i key q stands (ap (λ (n : ℕ). slice_get keys n) (omega (arith, lt, le)) ∙ at) in
        any_at (eq q) (seen ++ (key ∷ [])) (length seen) key (last_item seen key) (ap (λ (k : K). eq k key) (sym same) ∙ laws.refl key)
  ];
}

seen_old : {K : Type 0} (eq : K → K → Bool) (keys seen : List K) (places : List ℕ) (i : ℕ) (key : K) → slice_get keys i ≡ Some key → AreSeen eq keys i seen places → list_any (eq key) seen ≡ true → AreSeen eq keys (i + 1) seen places
seen_old {K} eq keys seen places i key stands so found = record {
  long = so.long;
  noted = so.noted;
  all = λ j q lt at. elim (cases_lt j i) [
    | inl less ↦ so.all j q less at
    | inr le ↦
        let same : key ≡ q = one_item keys i key q stands (ap (λ (n : ℕ). slice_get keys n) (omega (arith, lt, le)) ∙ at) in
        ap (λ (k : K). list_any (eq k) seen) (sym same) ∙ found
  ];
}

seen_more : {K : Type 0} (eq : K → K → Bool) → IsEquivalence eq → (keys seen : List K) (places : List ℕ) (i : ℕ) (key : K) (is_new : Bool) → slice_get keys i ≡ Some key → is_new ≡ not (list_any (eq key) seen) → AreSeen eq keys i seen places → AreSeen eq keys (i + 1) (insert_key eq seen key) (if is_new then places ++ (i ∷ []) else places)
seen_more {K} eq laws keys seen places i key is_new stands new so =
    elim (list_any (eq key) seen) as (λ (v : Bool). list_any (eq key) seen ≡ v → AreSeen eq keys (i + 1) (insert_key eq seen key) (if is_new then places ++ (i ∷ []) else places)) [
      | true ↦ λ found.
          let same : insert_key eq seen key ≡ seen = rw found refl in
          let off : is_new ≡ false = new ∙ ap not found in
          rw (same, off) (seen_old eq keys seen places i key stands so found)
      | false ↦ λ none.
          let same : insert_key eq seen key ≡ seen ++ (key ∷ []) = rw none refl in
          let on : is_new ≡ true = new ∙ ap not none in
          rw (same, on) (seen_new eq laws keys seen places i key stands so none)
    ] refl

-- the key that is stored stands first where this one does
first_here : {K : Type 0} (eq : K → K → Bool) → IsEquivalence eq → (keys : List K) (i f : ℕ) (key stored : K) → slice_get keys i ≡ Some key → IsFirstOf eq keys f stored → eq key stored ≡ true → IsLeast (IsAlsoAt eq keys i) f
first_here {K} eq laws keys i f key stored stands first equal = record {
  holds = record { key = key; stands = stands; twin = stored; other_stands = first.stands; equal = equal };
  least = λ j lt also.
      let same : also.key ≡ key = one_item keys i also.key key also.stands stands in
      let on : eq key also.twin ≡ true = ap (λ (k : K). eq k also.twin) (sym same) ∙ also.equal in
      let both : true ≡ false = sym on ∙ laws.congr key stored also.twin equal ∙ first.none j also.twin lt also.other_stands in
      absurd cc;
}

pub noted_more : {K : Type 0} (eq : K → K → Bool) → IsEquivalence eq → (keys seen new_seen : List K) (places new_places firsts : List ℕ) (i place f : ℕ) (key stored : K) (is_new : Bool) → slice_get keys i ≡ Some key → is_new ≡ not (list_any (eq key) seen) → new_seen ≡ insert_key eq seen key → new_places ≡ (if is_new then places ++ (i ∷ []) else places) → slice_get new_seen place ≡ Some stored → eq key stored ≡ true → f ≡ get_or new_places place f → AreNoted eq keys i seen places firsts → AreNoted eq keys (i + 1) new_seen new_places (firsts ++ (f ∷ []))
noted_more {K} eq laws keys seen new_seen places new_places firsts i place f key stored is_new stands new keys_are places_are stored_at equal is noted =
    let so = subst (λ (ks : List K). AreSeen eq keys (i + 1) ks new_places) (sym keys_are) (subst (λ (ps : List ℕ). AreSeen eq keys (i + 1) (insert_key eq seen key) ps) (sym places_are) (seen_more eq laws keys seen places i key is_new stands new noted.so)) in
    let lt = slice_get_within new_seen place stored stored_at in
    let at = read_item new_places place f (let long = so.long in omega (arith, lt, long)) is in
    record {
      so = so;
      count = let long = length-append firsts (f ∷ []) in let count = noted.count in omega (arith, long, count);
      first = λ n g here. elim (pushed_item firsts f n g here) [
        | inl old ↦ noted.first n g old
        | inr one ↦
            let last : n ≡ i = one.0 ∙ noted.count in
            subst (λ (k : ℕ). IsLeast (IsAlsoAt eq keys k) g) (sym last) (subst (λ (k : ℕ). IsLeast (IsAlsoAt eq keys i) k) (sym one.1)
            (first_here eq laws keys i f key stored stands (so.noted place f stored at stored_at) equal))
      ];
    }

pub all_noted : {K : Type 0} (eq : K → K → Bool) (keys seen : List K) (places firsts : List ℕ) (i : ℕ) → i ≡ length keys → AreNoted eq keys i seen places firsts → AreFirsts eq keys firsts
all_noted eq keys seen places firsts i end noted = record { long = noted.count ∙ end; first = noted.first }
