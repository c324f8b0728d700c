-- The regions of a body, by its clauses.
use Rattle.std.proofs.Common.{◌≡◌, ℕ, zero, suc, ◌+◌, ◌<◌, ◌≤◌, Bool, true, false, eqb, List, [], ◌∷◌, ◌++◌, length, get_or, sym, refl, ap, ◌∙◌, subst, arith}
use Rattle.std.proofs.lemmas.Bool.{both_ways, eqb-true, eq-eqb, cond_both}
use Rattle.std.proofs.lemmas.List.{get_or_default}
use Rattle.std.proofs.lemmas.List.Elements.{All-nil, All-cons, All-head, All-tail, All-append, All-weaker, Contains-append_left, Contains-append_right, Contains-push}
use Rattle.std.proofs.lemmas.List.FromFn.{length-enumerate_from, get_or-enumerate_from}
use Rattle.std.proofs.lemmas.List.Kept.{AllPairs-cons}
use Rattle.std.specs.Prelude.{if◌then◌else◌, ◌==◌}
use Rattle.std.specs.List.{All, AllPairs, Contains, flat_map, enumerate_from}
use Rattle.cil_body.specs.declared.body.Body.{Body}
use Rattle.cil_body.specs.declared.body.Clause.{Clause}
use Rattle.cil_body.specs.declared.body.ClauseKind.TheVariants.{Catch, Finally}
use Rattle.cil_regions.specs.declared.region.Span.{Span}
use Rattle.cil_regions.specs.Region.{first_of, try_of, handler_of, handler_kind, begun_by, whole_code, spans_of, is_try, HasClause}
use Rattle.cil_regions.specs.Laid.{DifferInName}

All-flat_map : {X A : Type 0} (f : X → List A) (P : A → Type 0) (xs : List X) → All (λ x. All P (f x)) xs → All P (flat_map f xs)
All-flat_map f P [] h = All-nil P
All-flat_map f P (x ∷ xs) h =
    All-append P (f x) (flat_map f xs) (All-head (λ y. All P (f y)) x xs h) (All-flat_map f P xs (All-tail (λ y. All P (f y)) x xs h))

Contains-flat_map : {X A : Type 0} (f : X → List A) (xs : List X) (x : X) (y : A) (k : ℕ) → k < length xs → get_or xs k x ≡ x → Contains (f x) y → Contains (flat_map f xs) y
Contains-flat_map f [] x y k lt is h = absurd (omega arith)
Contains-flat_map f (z ∷ xs) x y zero lt is h =
    Contains-append_left (f z) (flat_map f xs) y (subst (λ u. Contains (f u) y) (sym is) h)
Contains-flat_map f (z ∷ xs) x y (suc k) lt is h =
    Contains-append_right (f z) (flat_map f xs) y (Contains-flat_map f xs x y k (omega arith) is h)

module _ (clauses : List Clause) (P : Span → Type 0) where
  -- what holds of a clause's try, where it is the first clause of it, and of its handler, holds of what it begins
  All-begun : (i : ℕ) (c : Clause) → (first_of clauses i c ≡ i → P (try_of clauses i c)) → P (handler_of i c) → All P (begun_by clauses (i, c))
  All-begun i c h k =
      cond_both (eqb (first_of clauses i c) i) (try_of clauses i c ∷ []) [] (λ begun. All P (begun ++ handler_of i c ∷ []))
      (λ e. All-cons P (try_of clauses i c) (handler_of i c ∷ []) (h (eqb-true (first_of clauses i c) i e)) (All-cons P (handler_of i c) [] k (All-nil P)))
      (λ e. All-cons P (handler_of i c) [] k (All-nil P))

entry_at : (clauses : List Clause) (k : ℕ) (d : ℕ × Clause) → k < length clauses → get_or (enumerate_from 0 clauses) k d ≡ (k, get_or clauses k d.1)
entry_at clauses k d within =
    let none : 0 + k ≡ k = omega arith in
    get_or-enumerate_from 0 clauses k d within ∙ ap (λ n. (n, get_or clauses k d.1)) none

begun_among : (body : Body) (i : ℕ) (c : Clause) (s : Span) → HasClause body i c → Contains (begun_by body.clauses (i, c)) s → Contains (spans_of body) s
begun_among body i c s has h =
    Contains-append_right (whole_code body ∷ []) (flat_map (begun_by body.clauses) (enumerate_from 0 body.clauses)) s
    (Contains-flat_map (begun_by body.clauses) (enumerate_from 0 body.clauses) (i, c) s i
    (omega (arith, has.0, length-enumerate_from 0 body.clauses))
    (entry_at body.clauses i (i, c) has.0 ∙ ap (λ d. (i, d)) has.1)
    h)

module _ (body : Body) (P : Span → Type 0) (tries : (i : ℕ) (c : Clause) → HasClause body i c → first_of body.clauses i c ≡ i → P (try_of body.clauses i c)) (handlers : (i : ℕ) (c : Clause) → HasClause body i c → P (handler_of i c)) where
  All-begun_at : (k : ℕ) (d : ℕ × Clause) → k < length (enumerate_from 0 body.clauses) → All P (begun_by body.clauses (get_or (enumerate_from 0 body.clauses) k d))
  All-begun_at k d lt =
      let within : k < length body.clauses = omega (arith, length-enumerate_from 0 body.clauses) in
      let c = get_or body.clauses k d.1 in
      let has : HasClause body k c = (within, get_or_default body.clauses k c d.1 within) in
      let is : get_or (enumerate_from 0 body.clauses) k d ≡ (k, c) = entry_at body.clauses k d within in
      subst (λ e. All P (begun_by body.clauses e)) (sym is) (All-begun body.clauses P k c (tries k c has) (handlers k c has))

  -- what holds of the whole code, of each clause's try and of its handler, holds of all regions
  pub All-spans : P (whole_code body) → All P (spans_of body)
  All-spans whole =
      All-cons P (whole_code body) (flat_map (begun_by body.clauses) (enumerate_from 0 body.clauses)) whole
      (All-flat_map (begun_by body.clauses) P (enumerate_from 0 body.clauses) All-begun_at)

-- each of them is one of the regions
pub handler_among : (body : Body) (i : ℕ) (c : Clause) → HasClause body i c → Contains (spans_of body) (handler_of i c)
handler_among body i c has =
    begun_among body i c (handler_of i c) has
    (Contains-push (if first_of body.clauses i c == i then try_of body.clauses i c ∷ [] else []) (handler_of i c))

pub try_among : (body : Body) (i : ℕ) (c : Clause) → HasClause body i c → first_of body.clauses i c ≡ i → Contains (spans_of body) (try_of body.clauses i c)
try_among body i c has first =
    begun_among body i c (try_of body.clauses i c) has
    (subst (λ (b : Bool). Contains ((if b then try_of body.clauses i c ∷ [] else []) ++ handler_of i c ∷ []) (try_of body.clauses i c))
    (sym (eq-eqb (first_of body.clauses i c) i first))
    (zero, omega arith, refl))

-- the clauses from number n on, of which there are `count`
abbrev IsNumbered : ℕ → ℕ → Span → Type 0
IsNumbered n m s = (n ≤ s.first) × (s.first < m)

abbrev AreApart : ℕ → ℕ → List Span → Type 0
AreApart n m spans = All (IsNumbered n m) spans × AllPairs DifferInName spans

try_apart : (r s : Span) → is_try r.kind ≡ true → is_try s.kind ≡ false → DifferInName r s
try_apart r s t f e k = both_ways (is_try s.kind) f (sym k ∙ t)

handler_is_none : (i : ℕ) (c : Clause) → is_try (handler_of i c).kind ≡ false
handler_is_none i c = elim c.kind as (λ k. is_try (handler_kind c k) ≡ false) [ Catch ↦ refl | Finally ↦ refl ]

apart_from_later : (n m : ℕ) (r : Span) (rest : List Span) → r.first ≡ n → All (IsNumbered (n + 1) m) rest → All (DifferInName r) rest
apart_from_later n m r rest is h =
    All-weaker (IsNumbered (n + 1) m) (DifferInName r) (λ s k e t. omega (arith, k.0, e, is)) rest h

module _ (all : List Clause) (m : ℕ) where
  handler_apart : (n : ℕ) (c : Clause) (rest : List Span) → n < m → AreApart (n + 1) m rest → AreApart n m (handler_of n c ∷ rest)
  handler_apart n c rest lt h = (
    All-cons (IsNumbered n m) (handler_of n c) rest (omega arith, lt)
        (All-weaker (IsNumbered (n + 1) m) (IsNumbered n m) (λ s k. (omega (arith, k.0), k.1)) rest h.0),
    AllPairs-cons DifferInName (handler_of n c) rest (apart_from_later n m (handler_of n c) rest refl h.0) h.1,
  )

  try_and_handler_apart : (n : ℕ) (c : Clause) (rest : List Span) → first_of all n c ≡ n → n < m → AreApart (n + 1) m rest → AreApart n m (try_of all n c ∷ handler_of n c ∷ rest)
  try_and_handler_apart n c rest is lt h =
      let more = handler_apart n c rest lt h in (
        All-cons (IsNumbered n m) (try_of all n c) (handler_of n c ∷ rest) (omega (arith, is), omega (arith, is)) more.0,
        AllPairs-cons DifferInName (try_of all n c) (handler_of n c ∷ rest)
            (All-cons (DifferInName (try_of all n c)) (handler_of n c) rest (try_apart (try_of all n c) (handler_of n c) refl (handler_is_none n c))
            (apart_from_later n m (try_of all n c) rest is h.0))
            more.1,
      )

  clauses_apart : (n : ℕ) (clauses : List Clause) → n + length clauses ≤ m → AreApart n m (flat_map (begun_by all) (enumerate_from n clauses))
  clauses_apart n [] h = (All-nil (IsNumbered n m), λ i j d u v. absurd (omega arith))
  clauses_apart n (c ∷ clauses) h =
      let rest = clauses_apart (n + 1) clauses (omega arith) in
      cond_both (eqb (first_of all n c) n) (try_of all n c ∷ []) []
      (λ begun. AreApart n m ((begun ++ handler_of n c ∷ []) ++ flat_map (begun_by all) (enumerate_from (n + 1) clauses)))
      (λ e. try_and_handler_apart n c (flat_map (begun_by all) (enumerate_from (n + 1) clauses)) (eqb-true (first_of all n c) n e) (omega arith) rest)
      (λ e. handler_apart n c (flat_map (begun_by all) (enumerate_from (n + 1) clauses)) (omega arith) rest)

-- no two regions of a body have one name
pub spans_apart : (body : Body) → AllPairs DifferInName (spans_of body)
spans_apart body =
    let parts = clauses_apart body.clauses (length body.clauses) 0 body.clauses (omega arith) in
    AllPairs-cons DifferInName (whole_code body) (flat_map (begun_by body.clauses) (enumerate_from 0 body.clauses))
    (All-weaker (IsNumbered 0 (length body.clauses)) (DifferInName (whole_code body)) (λ s k e t. omega (arith, k.1, e)) (flat_map (begun_by body.clauses) (enumerate_from 0 body.clauses)) parts.0)
    parts.1
