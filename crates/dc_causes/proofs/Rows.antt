-- Where a loop over causes, or over keys, stands.
use Rattle.std.proofs.Common.{◌≡◌, ℕ, ◌+◌, ◌<◌, ◌≤◌, Bool, true, false, List, [], ◌∷◌, ◌++◌, length, take, drop, get_or, All, Ok, Err, refl, sym, ◌∙◌, ap, subst, inl, inr, arith}
use Rattle.std.specs.List.{list_any}
use Rattle.std.proofs.lemmas.List.{get_or_default, get_or-take, length-take, take-append-drop, drop_more, take_all, take_more}
use Rattle.std.proofs.lemmas.Bool.{cases_lt}
use Rattle.std.proofs.lemmas.List.Folds.{Any-from_list_any, list_any-from_Any}
use Rattle.indexmap.specs.IndexSet.{insert_key}
use Rattle.dc_causes.specs.Step.{Step}
use Rattle.dc_causes.specs.Causes.{InOrder}
use Rattle.dc_causes.specs.Rows.{IsRepeated}
use Rattle.dc_causes.proofs.Order.{passes, fault_there}

-- the cause at this index has the fault, where those before it are passed
pub fault_at : {C F : Type 0} (Asked : C → Step (Unit {0}) F) (causes : List C) (i : ℕ) (c : C) (f : F) → i < length causes → get_or causes i c ≡ c → All (λ c. Asked c (Ok tt)) (take i causes) → Asked c (Err f) → InOrder Asked causes (Err f)
fault_at {C} Asked causes i c f lt is passed fails =
    let behind : drop i causes ≡ c ∷ drop (i + 1) causes = drop_more causes i c lt ∙ ap (λ (x : C). x ∷ drop (i + 1) causes) is in
    fault_there Asked causes f (record {
      before = take i causes;
      first = c;
      behind = drop (i + 1) causes;
      among = sym (take-append-drop i causes) ∙ ap (λ (cs : List C). take i causes ++ cs) behind;
      passed = passed;
      fails = fails;
    })

-- all causes are passed, where those before the end are
pub all_passed : {C F : Type 0} (Asked : C → Step (Unit {0}) F) (causes : List C) (i : ℕ) → length causes ≤ i → All (λ c. Asked c (Ok tt)) (take i causes) → InOrder Asked causes (Ok tt)
all_passed {C} Asked causes i le passed =
    passes Asked causes (subst (λ (cs : List C). All (λ c. Asked c (Ok tt)) cs) (take_all i causes le) passed)

-- a key that is equal to one before it is repeated
pub repeated_at : {K : Type 0} (eq : K → K → Bool) (keys : List K) (n : ℕ) (key : K) → n < length keys → get_or keys n key ≡ key → list_any (eq key) (take n keys) ≡ true → IsRepeated eq keys n
repeated_at {K} eq keys n key lt is found =
    let any = Any-from_list_any (eq key) (take n keys) found in
    let long = length-take {A = K} n keys in
    let less : any.0 < n = omega (arith, any.2, long, lt) in
    record {
      within = lt;
      earlier = any.0;
      before = less;
      equal = λ d.
          let here : get_or keys n d ≡ key = get_or_default keys n d key lt ∙ is in
          let there : get_or keys any.0 d ≡ any.1 = get_or_default keys any.0 d any.1 (omega (arith, less, lt)) ∙ sym (get_or-take n keys any.0 any.1 less) ∙ any.3 in
          ap (λ (k : K). eq k (get_or keys any.0 d)) here ∙ ap (eq key) there ∙ any.4;
    }

-- a key that is equal to none before it isn't
pub not_repeated_at : {K : Type 0} (eq : K → K → Bool) (keys : List K) (n : ℕ) (key : K) → n < length keys → get_or keys n key ≡ key → list_any (eq key) (take n keys) ≡ false → IsRepeated eq keys n → ⊥
not_repeated_at {K} eq keys n key lt is none r =
    let long = length-take {A = K} n keys in
    let x : K = get_or keys r.earlier key in
    let within : r.earlier < length (take n keys) = omega (arith, long, lt, r.before) in
    let at : get_or (take n keys) r.earlier x ≡ x = get_or-take n keys r.earlier x r.before ∙ get_or_default keys r.earlier x key (omega (arith, lt, r.before)) in
    let equal : eq key x ≡ true = sym (ap (λ (k : K). eq k x) is) ∙ r.equal key in
    let found = list_any-from_Any (eq key) (take n keys) (r.earlier, x, within, at, equal) in
    let both : true ≡ false = sym found ∙ none in
    absurd cc

-- one more key that isn't repeated
pub none_more : {K : Type 0} (eq : K → K → Bool) (keys : List K) (i : ℕ) → ((n : ℕ) → n < i → IsRepeated eq keys n → ⊥) → (IsRepeated eq keys i → ⊥) → (n : ℕ) → n < i + 1 → IsRepeated eq keys n → ⊥
none_more eq keys i none here n lt r =
    elim (cases_lt n i) [
      | inl less ↦ none n less r
      | inr le ↦ let e : n ≡ i = omega (arith, lt, le) in here (subst (λ (k : ℕ). IsRepeated eq keys k) e r)
    ]

-- the keys so far with one that is new
pub keys_more : {K : Type 0} (eq : K → K → Bool) (keys seen : List K) (i : ℕ) (key : K) → i < length keys → get_or keys i key ≡ key → seen ≡ take i keys → list_any (eq key) seen ≡ false → insert_key eq seen key ≡ take (i + 1) keys
keys_more {K} eq keys seen i key lt is front none =
    let new : insert_key eq seen key ≡ seen ++ (key ∷ []) = rw none refl in
    new ∙ ap (λ (ks : List K). ks ++ (key ∷ [])) front ∙ ap (λ (k : K). take i keys ++ (k ∷ [])) (sym is) ∙ sym (take_more keys i key lt)
