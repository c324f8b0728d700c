-- In the order of the tree the whole code comes first.
use Rattle.std.proofs.Common.{◌≡◌, ◌≢◌, ℕ, zero, ◌^◌, ◌<◌, ◌≤◌, true, eqb, List, [], ◌∷◌, ◌++◌, length, get_or, ◌⊎◌, inl, inr, sym, refl, ap, ◌∙◌, subst, arith}
use Rattle.std.proofs.lemmas.Bool.{cases_order, cond_both}
use Rattle.std.proofs.lemmas.List.{get_or_default}
use Rattle.std.proofs.lemmas.List.Concat.{length-flat_map}
use Rattle.std.proofs.lemmas.List.FromFn.{length-enumerate_from}
use Rattle.std.proofs.lemmas.List.Sorted.{All-permutation, Contains-permutation, length_permutation}
use Rattle.std.proofs.lemmas.List.Sums.{sum_by-le}
use Rattle.std.specs.List.{All, Contains, enumerate_from}
use Rattle.cil_body.specs.declared.body.Body.{Body}
use Rattle.cil_body.specs.declared.body.Clause.{Clause}
use Rattle.cil_body.specs.declared.body.ClauseKind.{ClauseKind}
use Rattle.cil_body.specs.declared.body.ClauseKind.TheVariants.{Catch, Finally}
use Rattle.cil_regions.specs.declared.region.RegionKind.TheVariants.{Code}
use Rattle.cil_regions.specs.declared.region.Span.{Span}
use Rattle.cil_body.specs.Range.{HasRanges, IsRange}
use Rattle.cil_regions.specs.Region.{first_of, try_of, handler_of, handler_kind, begun_by, whole_code, spans_of, is_try, is_inside, ComesBefore}
use Rattle.cil_regions.specs.Laid.{AreOrdered, AreLaid}
use Rattle.cil_regions.proofs.Inside.{inside_parts, inside_asym}
use Rattle.cil_regions.proofs.Spans.{All-spans}

-- a region other than the whole code
pub record IsPart (body : Body) (r : Span) : Type 0 where
  pub numbered : r.first < length body.clauses
  pub wide : r.from < r.to
  pub kind : r.kind ≢ Code

abbrev IsWholeOrPart : Body → Span → Type 0
IsWholeOrPart body r = (r.to ≤ body.size) × ((r ≡ whole_code body) ⊎ IsPart body r)

handler_not_code : (c : Clause) (k : ClauseKind) → handler_kind c k ≢ Code
handler_not_code c Catch e = cc
handler_not_code c Finally e = cc

parts : (body : Body) → HasRanges body → All (IsWholeOrPart body) (spans_of body)
parts body h =
    All-spans body (IsWholeOrPart body)
    (λ i c has first.
    let range = subst (IsRange body.size) has.1 (h.ranges i c has.0) in (
      range.try_within,
      inr record {
        numbered = omega (arith, first, has.0);
        wide = omega (arith, range.some_try);
        kind = λ e. cc;
      },
    ))
    (λ i c has.
    let range = subst (IsRange body.size) has.1 (h.ranges i c has.0) in (
      range.handler_within,
      inr record {
        numbered = has.0;
        wide = omega (arith, range.some_handler);
        kind = handler_not_code c c.kind;
      },
    ))
    (omega arith, inl refl)

-- the whole code stands inside none of them
whole_outside : (body : Body) (r : Span) → IsWholeOrPart body r → is_inside (whole_code body) r ≡ true → ⊥
whole_outside body r h inside =
    elim h.1 [
      | inl is ↦ inside_asym (whole_code body) (whole_code body) (subst (λ s. is_inside (whole_code body) s ≡ true) is inside) (subst (λ s. is_inside (whole_code body) s ≡ true) is inside)
      | inr part ↦
          let within = inside_parts (whole_code body) r inside in
          elim (within.later (omega arith) h.0) [ inl less ↦ omega (arith, less, part.numbered) | inr same ↦ omega (arith, same.0, part.numbered) ]
    ]

module _ (body : Body) (spans : List Span) (h : HasRanges body) (ordered : AreOrdered body spans) where
  all_parts : All (IsWholeOrPart body) spans
  all_parts = All-permutation (IsWholeOrPart body) (spans_of body) spans ordered.all (parts body h)

  whole_among : Contains spans (whole_code body)
  whole_among = Contains-permutation (spans_of body) spans (whole_code body) ordered.all (zero, omega arith, refl)

  not_empty : 0 < length spans
  not_empty = let among = whole_among in omega (arith, among.1)

  pub whole_first : (d : Span) → get_or spans 0 d ≡ whole_code body
  whole_first d =
      let among = whole_among in
      elim (cases_order among.0 0) [
        | inl is ↦ get_or_default spans 0 d (whole_code body) not_empty ∙ ap (λ n. get_or spans n (whole_code body)) (sym is) ∙ among.2
        | inr apart ↦ elim apart [
          | inl less ↦ absurd (omega arith)
          | inr more ↦
              let before = ordered.ordered 0 among.0 (whole_code body) more among.1 in
              let outer = get_or spans 0 (whole_code body) in
              let here : ComesBefore outer (whole_code body) = subst (ComesBefore outer) among.2 before in
              absurd (elim here [
                | inl less ↦ omega (arith, less)
                | inr same ↦ whole_outside body outer (all_parts 0 (whole_code body) not_empty) same.1
              ])
        ]
      ]

  part_behind : (k : ℕ) (d : Span) → 0 < k → k < length spans → IsPart body (get_or spans k d)
  part_behind k d pos lt =
      elim (all_parts k d lt).1 [
        | inl is ↦
            let same : get_or spans 0 d ≡ get_or spans k d = whole_first d ∙ sym is in
            absurd (ordered.named 0 k d pos lt (ap (λ (r : Span). r.first) same) (ap (λ (r : Span). is_try r.kind) same))
        | inr part ↦ part
      ]

  pub are_laid : AreLaid spans
  are_laid = record {
    some = not_empty;
    ordered = ordered.ordered;
    within = λ k d lt. omega (arith, (all_parts k d lt).0, ap (λ (r : Span). r.to) (whole_first d));
    whole = λ d. ap (λ (r : Span). r.kind) (whole_first d);
    begins = λ d. ap (λ (r : Span). r.from) (whole_first d);
    parts = λ k d pos lt. (part_behind k d pos lt).kind;
    wide = λ k d pos lt. (part_behind k d pos lt).wide;
  }

  at_most_two : (clauses : List Clause) (e : ℕ × Clause) → length (begun_by clauses e) ≤ 2
  at_most_two clauses e =
      cond_both (eqb (first_of clauses e.0 e.1) e.0) (try_of clauses e.0 e.1 ∷ []) [] (λ begun. length (begun ++ handler_of e.0 e.1 ∷ []) ≤ 2)
      (λ t. omega arith)
      (λ f. omega arith)

  pub few_spans : length spans ≤ 2 ^ 31
  few_spans =
      let many = length_permutation (spans_of body) spans ordered.all in
      let begun = length-flat_map (begun_by body.clauses) (enumerate_from 0 body.clauses) in
      let most = sum_by-le (λ e. length (begun_by body.clauses e)) 2 (enumerate_from 0 body.clauses) (λ k d lt. at_most_two body.clauses (get_or (enumerate_from 0 body.clauses) k d)) in
      omega (arith, many, begun, most, length-enumerate_from 0 body.clauses, h.few)
