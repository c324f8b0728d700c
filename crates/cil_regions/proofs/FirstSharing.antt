-- The first clause that has the same try as another.
use Rattle.std.proofs.Common.{◌≡◌, ℕ, ◌+◌, ◌<◌, Bool, true, ◌&&◌, eqb, ltb, Option, Some, None, List, [], ◌∷◌, ◌++◌, length, length-append, get_or, cond, inl, inr, sym, refl, ap, ◌∙◌, subst, arith}
use Rattle.std.proofs.lemmas.Bool.{eqb-true, eq-eqb, lt-ltb, and_parts, and_from, cond-true, cases_lt, false_from_ne_true, both_ways}
use Rattle.std.proofs.Math.ListN.{get_or-append}
use Rattle.std.proofs.lemmas.List.{get_or_default, get_or_push}
use Rattle.std.proofs.lemmas.List.Quantifiers.{position-Some}
use Rattle.std.proofs.lemmas.List.Sums.{position_or_len_is}
use Rattle.std.specs.List.{position, position_or_len}
use Rattle.std.specs.Option.{unwrap_or}
use Rattle.cil_body.specs.declared.body.Clause.{Clause}
use Rattle.cil_regions.specs.declared.region.RegionKind.TheVariants.{Try}
use Rattle.cil_regions.specs.declared.region.Span.{Span}
use Rattle.cil_regions.specs.Region.{is_catch, shares_try, first_of, try_of}
use Rattle.cil_regions.specs.Laid.{AreFirsts}

record Shares (c d : Clause) : Type 0 where
  left : is_catch c.kind ≡ true
  right : is_catch d.kind ≡ true
  at : c.try_at ≡ d.try_at
  len : c.try_len ≡ d.try_len

shares_parts : (c d : Clause) → shares_try c d ≡ true → Shares c d
shares_parts c d h =
    let a = and_parts (is_catch c.kind && is_catch d.kind && eqb c.try_at d.try_at) (eqb c.try_len d.try_len) h in
    let b = and_parts (is_catch c.kind && is_catch d.kind) (eqb c.try_at d.try_at) a.0 in
    let e = and_parts (is_catch c.kind) (is_catch d.kind) b.0 in
    record { left = e.0; right = e.1; at = eqb-true c.try_at d.try_at b.1; len = eqb-true c.try_len d.try_len a.1 }

shares_from : (c d : Clause) → Shares c d → shares_try c d ≡ true
shares_from c d s =
    and_from (is_catch c.kind && is_catch d.kind && eqb c.try_at d.try_at) (eqb c.try_len d.try_len)
    (and_from (is_catch c.kind && is_catch d.kind) (eqb c.try_at d.try_at)
    (and_from (is_catch c.kind) (is_catch d.kind) s.left s.right)
    (eq-eqb c.try_at d.try_at s.at))
    (eq-eqb c.try_len d.try_len s.len)

-- of three clauses the outer two share a try if each shares that of the middle one
shares_on : (c d e : Clause) → shares_try c d ≡ true → shares_try d e ≡ true → shares_try c e ≡ true
shares_on c d e h k =
    let u = shares_parts c d h in
    let v = shares_parts d e k in
    shares_from c e record { left = u.left; right = v.right; at = u.at ∙ v.at; len = u.len ∙ v.len }

shares_itself : (c d : Clause) → shares_try c d ≡ true → shares_try d d ≡ true
shares_itself c d h =
    let u = shares_parts c d h in
    shares_from d d record { left = u.right; right = u.right; at = refl; len = refl }

position_is : {X : Type 0} (p : X → Bool) (xs : List X) (i : ℕ) → i < length xs → position_or_len p xs ≡ i → position p xs ≡ Some i
position_is p xs i lt is =
    subst (λ n. cond (ltb n (length xs)) (Some n) None ≡ Some i) (sym is) (cond-true (ltb i (length xs)) (Some i) None (lt-ltb i (length xs) lt))

-- The first clause that has the same try as a clause has that try, and is the first itself.
pub record IsFirst (clauses : List Clause) (i : ℕ) (c : Clause) : Type 0 where
  pub clause : Clause
  pub within : first_of clauses i c < length clauses
  pub at : get_or clauses (first_of clauses i c) clause ≡ clause
  pub itself : first_of clauses (first_of clauses i c) clause ≡ first_of clauses i c
  pub same : try_of clauses (first_of clauses i c) clause ≡ try_of clauses i c

abbrev make_try : ℕ → ℕ → ℕ → Span
make_try at len first = record { kind = Try; from = at; to = at + len; first = first }

same_try : (at at' len len' first first' : ℕ) → at ≡ at' → len ≡ len' → first ≡ first' → make_try at len first ≡ make_try at' len' first'
same_try at at' len len' first first' h k l = cc

module _ (clauses : List Clause) (i : ℕ) (c : Clause) (within : i < length clauses) (is : get_or clauses i c ≡ c) where
  first_by : (found : Option ℕ) → position (shares_try c) clauses ≡ found → IsFirst clauses i c
  first_by None none =
      let own : first_of clauses i c ≡ i = ap (λ o. unwrap_or o i) none in
      record {
        clause = c;
        within = omega (arith, own);
        at = ap (λ n. get_or clauses n c) own ∙ is;
        itself = ap (λ n. first_of clauses n c) own;
        same = ap (λ n. try_of clauses n c) own;
      }
  first_by (Some f) some =
      let e = get_or clauses f c in
      let first = position-Some (shares_try c) clauses f c some in
      let own : first_of clauses i c ≡ f = ap (λ o. unwrap_or o i) some in
      let len : position_or_len (shares_try e) clauses ≡ f =
      position_or_len_is (shares_try e) clauses f c (omega (arith, first.0))
      (λ k lt. false_from_ne_true (shares_try e (get_or clauses k c)) (λ t. both_ways (shares_try c (get_or clauses k c)) (first.2 k lt) (shares_on c e (get_or clauses k c) first.1 t)))
      (λ lt. shares_itself c e first.1) in
      let itself : first_of clauses f e ≡ f = ap (λ o. unwrap_or o f) (position_is (shares_try e) clauses f first.0 len) in
      let again : first_of clauses (first_of clauses i c) e ≡ first_of clauses i c = ap (λ n. first_of clauses n e) own ∙ itself ∙ sym own in
      let shares = shares_parts c e first.1 in
      record {
        clause = e;
        within = omega (arith, own, first.0);
        at = ap (λ n. get_or clauses n e) own ∙ get_or_default clauses f e c first.0;
        itself = again;
        same = same_try e.try_at c.try_at e.try_len c.try_len (first_of clauses (first_of clauses i c) e) (first_of clauses i c) (sym shares.at) (sym shares.len) again;
      }

  pub first_is : IsFirst clauses i c
  first_is = first_by (position (shares_try c) clauses) refl

-- the numbers of the first n clauses
pub record AreFirstsUpto (clauses : List Clause) (n : ℕ) (firsts : List ℕ) : Type 0 where
  pub as_many : length firsts ≡ n
  pub each : (k : ℕ) (c : Clause) → k < n → get_or firsts k 0 ≡ first_of clauses k (get_or clauses k c)
  pub below : (k : ℕ) → k < n → get_or firsts k 0 < length clauses

pub firsts_more : (clauses : List Clause) (firsts new : List ℕ) (n first : ℕ) (d : Clause) → n < length clauses → AreFirstsUpto clauses n firsts → first ≡ first_of clauses n (get_or clauses n d) → new ≡ firsts ++ first ∷ [] → AreFirstsUpto clauses (n + 1) new
firsts_more clauses firsts new n first d within h is grown =
    let old : (k : ℕ) → k < n → get_or new k 0 ≡ get_or firsts k 0 =
    λ k lt. ap (λ xs. get_or xs k 0) grown ∙ get_or-append firsts (first ∷ []) 0 k (omega (arith, h.as_many)) in
    let last : get_or new n 0 ≡ first = ap (λ xs. get_or xs n 0) grown ∙ get_or_push firsts first 0 n h.as_many in
    record {
      as_many = omega (arith, ap length grown, length-append firsts (first ∷ []), h.as_many);
      each = λ k c lt. elim (cases_lt k n) [
        | inl early ↦ old k early ∙ h.each k c early
        | inr past ↦
            let here : k ≡ n = omega arith in
            ap (λ i. get_or new i 0) here ∙ last ∙ is ∙ ap (first_of clauses n) (get_or_default clauses n d c within)
            ∙ ap (λ i. first_of clauses i (get_or clauses i c)) (sym here)
      ];
      below = λ k lt. elim (cases_lt k n) [
        | inl early ↦ omega (arith, old k early, h.below k early)
        | inr past ↦
            let here : k ≡ n = omega arith in
            let c = get_or clauses n d in
            let proper = first_is clauses n c within (get_or_default clauses n c d within) in
            omega (arith, ap (λ i. get_or new i 0) here, last, is, proper.within)
      ];
    }

pub firsts_all : (clauses : List Clause) (firsts : List ℕ) (n : ℕ) → length clauses ≡ n → AreFirstsUpto clauses n firsts → AreFirsts clauses firsts
firsts_all clauses firsts n many h = record {
  as_many = h.as_many ∙ sym many;
  each = λ i c lt. h.each i c (omega (arith, many));
  below = λ i lt. h.below i (omega (arith, many));
}
