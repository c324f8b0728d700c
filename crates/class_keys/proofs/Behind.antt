-- Where a walk over keys from the last to the first stands.
use Rattle.std.proofs.Common.{◌≡◌, ◌≢◌, ℕ, ◌+◌, ◌<◌, ◌≤◌, Bool, true, false, Option, Some, None, List, [], ◌∷◌, ◌++◌, length, drop, get_or, refl, sym, ◌∙◌, ap, subst, inl, inr, arith}
use Rattle.std.specs.Prelude.{◌||◌}
use Rattle.std.specs.Cmp.{IsEquivalence}
use Rattle.std.specs.List.{list_any, slice_get}
use Rattle.std.proofs.lemmas.Bool.{cases_lt, cases_order}
use Rattle.std.proofs.lemmas.List.{drop_more}
use Rattle.std.proofs.lemmas.List.Folds.{list_any-append}
use Rattle.std.proofs.lemmas.Map.Steps.{list_any_congr}
use Rattle.std.proofs.lemmas.Option.{slice_get-get_or, slice_get_within}
use Rattle.indexmap.specs.IndexSet.{insert_key}
use Rattle.dc_causes.specs.First.{IsLeast}
use Rattle.class_keys.specs.Least.{IsLeastOf}
use Rattle.class_keys.specs.Shared.{IsShared}
use Rattle.class_keys.proofs.Found.{IsFoundFrom, found_from, any_from}
use Rattle.class_keys.proofs.OfTwo.{least_of_same}

-- an index behind this one has an equal key
pub record HasTwinBehind {K : Type 0} (eq : K → K → Bool) (keys : List K) (n : ℕ) : Type 0 where
  pub shared : IsShared eq keys n
  pub behind : n < shared.other

-- this or a later index has a twin behind it
pub record IsSharedFrom {K : Type 0} (eq : K → K → Bool) (keys : List K) (from_ n : ℕ) : Type 0 where
  pub late : from_ ≤ n
  pub twin : HasTwinBehind eq keys n

-- the keys from an index on have been seen
pub record IsBehind {K : Type 0} (eq : K → K → Bool) (keys : List K) (from_ : ℕ) (seen : List K) (least : Option ℕ) : Type 0 where
  pub same : (q : K) → list_any (eq q) seen ≡ list_any (eq q) (drop from_ keys)
  pub first : IsLeastOf (IsSharedFrom eq keys from_) least

-- the walk's next key
record IsAt {K : Type 0} (keys : List K) (i : ℕ) (key : K) : Type 0 where
  within : i < length keys
  is : get_or keys i key ≡ key

stands_at : {K : Type 0} (keys : List K) (i : ℕ) (key : K) → IsAt keys i key → slice_get keys i ≡ Some key
stands_at keys i key at = slice_get-get_or keys i key at.within ∙ ap Some at.is

left_here : {K : Type 0} (eq : K → K → Bool) (keys : List K) (i : ℕ) (key q : K) → IsAt keys i key → list_any (eq q) (drop i keys) ≡ (eq q key || list_any (eq q) (drop (i + 1) keys))
left_here {K} eq keys i key q at =
    ap (list_any (eq q)) (drop_more keys i key at.within) ∙ ap (λ (k : K). eq q k || list_any (eq q) (drop (i + 1) keys)) at.is

or_swap : (a b : Bool) → (a || (b || false)) ≡ (b || a)
or_swap true true = refl
or_swap true false = refl
or_swap false true = refl
or_swap false false = refl

or_kept : (a b : Bool) → (a ≡ true → b ≡ true) → b ≡ (a || b)
or_kept true b h = h refl
or_kept false b h = refl

same_new : {K : Type 0} (eq : K → K → Bool) (keys seen : List K) (i : ℕ) (key : K) → IsAt keys i key → ((q : K) → list_any (eq q) seen ≡ list_any (eq q) (drop (i + 1) keys)) → (q : K) → list_any (eq q) (seen ++ (key ∷ [])) ≡ list_any (eq q) (drop i keys)
same_new eq keys seen i key at same q =
    list_any-append (eq q) seen (key ∷ [])
    ∙ or_swap (list_any (eq q) seen) (eq q key)
    ∙ ap (λ (b : Bool). eq q key || b) (same q)
    ∙ sym (left_here eq keys i key q at)

same_old : {K : Type 0} (eq : K → K → Bool) → IsEquivalence eq → (keys seen : List K) (i : ℕ) (key : K) → IsAt keys i key → list_any (eq key) seen ≡ true → ((q : K) → list_any (eq q) seen ≡ list_any (eq q) (drop (i + 1) keys)) → (q : K) → list_any (eq q) seen ≡ list_any (eq q) (drop i keys)
same_old eq laws keys seen i key at found same q =
    or_kept (eq q key) (list_any (eq q) seen) (λ e. list_any_congr laws q key seen e ∙ found)
    ∙ ap (λ (b : Bool). eq q key || b) (same q)
    ∙ sym (left_here eq keys i key q at)

-- a key that hasn't been seen has no twin behind it
no_twin : {K : Type 0} (eq : K → K → Bool) (keys : List K) (i : ℕ) (key : K) → IsAt keys i key → list_any (eq key) (drop (i + 1) keys) ≡ false → HasTwinBehind eq keys i → ⊥
no_twin {K} eq keys i key at none twin =
    let s = twin.shared in
    let same : Some s.key ≡ Some key = sym s.stands ∙ stands_at keys i key at in
    let e : s.key ≡ key = cc in
    let passes : eq key s.twin ≡ true = sym (ap (λ (k : K). eq k s.twin) e) ∙ s.equal in
    let found = any_from (eq key) keys (i + 1) s.other s.twin (omega (arith, twin.behind)) s.other_stands passes in
    let both : true ≡ false = sym found ∙ none in
    cc

-- a key that has been seen has one
a_twin : {K : Type 0} (eq : K → K → Bool) (keys : List K) (i : ℕ) (key : K) → IsAt keys i key → list_any (eq key) (drop (i + 1) keys) ≡ true → HasTwinBehind eq keys i
a_twin eq keys i key at found =
    let f = found_from (eq key) keys (i + 1) found in
    record {
      shared = record { key = key; stands = stands_at keys i key at; other = f.index; apart = omega (arith, f.late); twin = f.item; other_stands = f.stands; equal = f.passes };
      behind = omega (arith, f.late);
    }

wider : {K : Type 0} (eq : K → K → Bool) (keys : List K) (i n : ℕ) → IsSharedFrom eq keys (i + 1) n → IsSharedFrom eq keys i n
wider eq keys i n s = record { late = omega (arith, s.late); twin = s.twin }

narrower : {K : Type 0} (eq : K → K → Bool) (keys : List K) (i : ℕ) → (HasTwinBehind eq keys i → ⊥) → (n : ℕ) → IsSharedFrom eq keys i n → IsSharedFrom eq keys (i + 1) n
narrower eq keys i none n s = elim (cases_lt i n) [
  | inl lt ↦ record { late = omega (arith, lt); twin = s.twin }
  | inr le ↦ absurd (none (subst (λ (k : ℕ). HasTwinBehind eq keys k) (omega (arith, le, s.late)) s.twin))
]

pub step_new : {K : Type 0} (eq : K → K → Bool) (keys seen : List K) (i j : ℕ) (key : K) (least : Option ℕ) → j ≡ i + 1 → i < length keys → get_or keys i key ≡ key → IsBehind eq keys j seen least → list_any (eq key) seen ≡ false → IsBehind eq keys i (insert_key eq seen key) least
step_new {K} eq keys seen i j key least next within is behind none =
    let at : IsAt keys i key = record { within = within; is = is } in
    let b = subst (λ (n : ℕ). IsBehind eq keys n seen least) next behind in
    let put : insert_key eq seen key ≡ seen ++ (key ∷ []) = rw none refl in
    record {
      same = λ q. ap (list_any (eq q)) put ∙ same_new eq keys seen i key at b.same q;
      first = least_of_same _ _ least (wider eq keys i) (narrower eq keys i (no_twin eq keys i key at (sym (b.same key) ∙ none))) b.first;
    }

pub step_old : {K : Type 0} (eq : K → K → Bool) → IsEquivalence eq → (keys seen : List K) (i j : ℕ) (key : K) (least : Option ℕ) → j ≡ i + 1 → i < length keys → get_or keys i key ≡ key → IsBehind eq keys j seen least → list_any (eq key) seen ≡ true → IsBehind eq keys i (insert_key eq seen key) (Some i)
step_old {K} eq laws keys seen i j key least next within is behind found =
    let at : IsAt keys i key = record { within = within; is = is } in
    let b = subst (λ (n : ℕ). IsBehind eq keys n seen least) next behind in
    let put : insert_key eq seen key ≡ seen = rw found refl in
    record {
      same = λ q. ap (list_any (eq q)) put ∙ same_old eq laws keys seen i key at found b.same q;
      first = record {
        holds = record { late = omega arith; twin = a_twin eq keys i key at (sym (b.same key) ∙ found) };
        least = λ m lt s. omega (arith, lt, s.late);
      };
    }

-- the twin is shared too
swapped : {K : Type 0} (eq : K → K → Bool) → IsEquivalence eq → (keys : List K) (n : ℕ) (s : IsShared eq keys n) → IsShared eq keys s.other
swapped eq laws keys n s = record {
  key = s.twin;
  stands = s.other_stands;
  other = n;
  apart = λ e. s.apart (sym e);
  twin = s.key;
  other_stands = s.stands;
  equal = laws.symm s.twin s.key ∙ s.equal;
}

-- whatever is shared is, or stands behind, an index with a twin behind it
earlier : {K : Type 0} (eq : K → K → Bool) → IsEquivalence eq → (keys : List K) (n : ℕ) → IsShared eq keys n → (m : ℕ) × (m ≤ n) × IsSharedFrom eq keys 0 m
unfolding swapped
earlier eq laws keys n s = elim (cases_order n s.other) [
  | inl e ↦ absurd (s.apart e)
  | inr w ↦ elim w [
    | inl lt ↦ (n, omega arith, record { late = omega arith; twin = record { shared = s; behind = lt } })
    | inr gt ↦ (s.other, omega (arith, gt), record { late = omega arith; twin = record { shared = swapped eq laws keys n s; behind = gt } })
  ]
]

pub all_seen : {K : Type 0} (eq : K → K → Bool) → IsEquivalence eq → (keys : List K) (least : Option ℕ) → IsLeastOf (IsSharedFrom eq keys 0) least → IsLeastOf (IsShared eq keys) least
all_seen eq laws keys None none = λ n s. let e = earlier eq laws keys n s in none e.0 e.2
all_seen eq laws keys (Some f) first = record {
  holds = first.holds.twin.shared;
  least = λ m lt s. let e = earlier eq laws keys m s in first.least e.0 (omega (arith, e.1, lt)) e.2;
}

nothing_left : {K : Type 0} (p : K → Bool) (keys : List K) → list_any p (drop (length keys) keys) ≡ false
nothing_left p [] = refl
nothing_left p (k ∷ keys) = nothing_left p keys

pub before_the_walk : {K : Type 0} (eq : K → K → Bool) (keys seen : List K) → seen ≡ [] → IsBehind eq keys (length keys) seen None
before_the_walk {K} eq keys seen empty = record {
  same = λ q. ap (list_any (eq q)) empty ∙ sym (nothing_left (eq q) keys);
  first = λ n s. let lt = slice_get_within keys n s.twin.shared.key s.twin.shared.stands in omega (arith, lt, s.late);
}
