-- The innermost region round an instruction: of those that hold it the last.
use Rattle.std.proofs.Common.{◌≡◌, not, inl, inr, ℕ, ◌+◌, ◌-◌, ◌<◌, ◌≤◌, Bool, true, false, List, Some, length, get_or, refl, sym, ap, ◌∙◌, subst, arith}
use Rattle.std.proofs.lemmas.List.Elements.{Contains-get_or}
use Rattle.std.proofs.lemmas.List.Sorted.{Contains-permutation, IsPermutation-sym}
use Rattle.std.proofs.lemmas.List.{get_or_default}
use Rattle.std.proofs.lemmas.Bool.{cases_Bool, cases_lt, both_ways}
use Rattle.verify_spots.proofs.There.{some_same}
use Rattle.std.specs.Bool.{OnTrue, OnFalse}
use Rattle.std.specs.List.{Contains}
use Rattle.std.specs.Prelude.{IsTrue}
use Rattle.cil_body.specs.declared.body.Body.{Body}
use Rattle.cil_regions.specs.declared.region.RegionKind.TheVariants.{Finally}
use Rattle.cil_regions.specs.declared.region.Region.{Region}
use Rattle.cil_regions.specs.declared.region.Span.{Span}
use Rattle.cil_regions.specs.Region.{AreNodes, IsNode, IsLaminar, AreLaminar, Holds, spans_of, is_inside, ComesBefore}
use Rattle.cil_regions.proofs.Inside.{lies_parts, inside_from, inside_asym}
use Rattle.verify_spots.specs.Spots.{StandsIn, IsInnermost}
use Rattle.verify_spots.specs.Questions.{IsLastRound, HasNoneRound, EndsNoFinally, span_of}

-- a search from the last node back
module _ (body : Body) (nodes : List Region) (i : ℕ) (back : ℕ) (none : (k : ℕ) → k < back → (d : Region) → StandsIn body (span_of (get_or nodes (length nodes - 1 - k) d)) i → ⊥) where
  beyond : (m : ℕ) (d : Region) → m < length nodes → length nodes ≤ m + back → StandsIn body (span_of (get_or nodes m d)) i → ⊥
  beyond m d within far s =
      let same : m ≡ length nodes - 1 - (length nodes - 1 - m) = omega (arith, within) in
      none (length nodes - 1 - m) (omega (arith, within, far)) d (subst (λ (j : ℕ). StandsIn body (span_of (get_or nodes j d)) i) same s)

  pub found : back < length nodes → (d : Region) → StandsIn body (span_of (get_or nodes (length nodes - 1 - back) d)) i → (node : Region) → Some (get_or nodes (length nodes - 1 - back) d) ≡ Some node → IsLastRound body nodes i node
  found lt d stands node is =
      let same : get_or nodes (length nodes - 1 - back) d ≡ node = some_same (get_or nodes (length nodes - 1 - back) d) node is in
      let within : length nodes - 1 - back < length nodes = omega (arith, lt) in (
        length nodes - 1 - back,
        within,
        get_or_default nodes (length nodes - 1 - back) node d within ∙ same,
        subst (λ (x : Region). StandsIn body (span_of x) i) same stands,
        λ m e after below. beyond m e below (omega (arith, after, below)),
      )

  pub not_found : length nodes ≤ back → HasNoneRound body nodes i
  not_found all m d within = beyond m d within (omega (arith, all))

-- it has the range of a region that holds the instruction
same_stands : (body : Body) (i : ℕ) (q r : Span) → q.from ≡ r.from → q.to ≡ r.to → StandsIn body q i → StandsIn body r i
same_stands body i q r f t s = (s.0, s.1, (subst (λ (x : ℕ). x ≤ s.0) f s.2.0, subst (λ (x : ℕ). s.0 < x) t s.2.1))

-- of two laminar regions that hold a place, the one that begins later stands inside the other
inside_later : (q r : Span) (place : ℕ) → AreLaminar r q → q.from < r.from → Holds q place → Holds r place → is_inside r q ≡ true
inside_later q r place laminar lt hq hr =
    elim laminar [
      | inl apart ↦ let a = hr.1 in let b = hq.0 in absurd (omega (arith, apart, a, b))
      | inr (inl apart) ↦ let a = hq.1 in let b = hr.0 in absurd (omega (arith, apart, a, b))
      | inr (inr (inl in_q)) ↦
          let parts = lies_parts r q in_q in
          let ends = parts.1 in
          inside_from r q (record { starts = omega (arith, lt); ends = ends; later = λ a b. absurd (omega (arith, a, lt)) })
      | inr (inr (inr in_r)) ↦ let starts = (lies_parts q r in_r).0 in absurd (omega (arith, starts, lt))
    ]

module _ (body : Body) (nodes : List Region) (are : AreNodes body nodes) (laminar : IsLaminar body) (i : ℕ) where
  node_of : (k : ℕ) (r : Span) (d : Region) → k < length are.spans → IsNode are.spans k (get_or are.spans k r) (get_or nodes k d)
  node_of k r d lt = are.each k r d lt

  among : (k : ℕ) (r : Span) → k < length are.spans → Contains (spans_of body) (get_or are.spans k r)
  among k r lt = Contains-permutation are.spans (spans_of body) (get_or are.spans k r) (IsPermutation-sym (spans_of body) are.spans are.all) (Contains-get_or are.spans k r lt)

  -- a region that holds the instruction is that of a node that does
  holder : (q : Span) → Contains (spans_of body) q → StandsIn body q i → (k : ℕ) × (k < length are.spans) × (get_or are.spans k q ≡ q) × ((d : Region) → StandsIn body (span_of (get_or nodes k d)) i)
  holder q has stands =
      let at : Contains are.spans q = Contains-permutation (spans_of body) are.spans q are.all has in (
        at.0,
        at.1,
        at.2,
        λ d.
            let is = node_of at.0 q d at.1 in
            same_stands body i q (span_of (get_or nodes at.0 d)) (sym (is.from ∙ ap (λ (x : Span). x.from) at.2)) (sym (is.to ∙ ap (λ (x : Span). x.to) at.2)) stands,
      )

  -- of two in order the one inside the other
  inside_of : (q r : Span) → ComesBefore q r → Contains (spans_of body) q → Contains (spans_of body) r → StandsIn body q i → StandsIn body r i → IsTrue (is_inside r q)
  inside_of q r (inl lt) hq hr sq sr =
      elim (cases_Bool (is_inside r q)) [
        | inl yes_ ↦ yes_
        | inr no_ ↦
            absurd (laminar r.from (
              r,
              q,
              hr,
              hq,
              refl,
              λ (lam : AreLaminar r q).
                  both_ways (is_inside r q) no_ (inside_later q r sr.0 lam lt
                  (subst (Holds q) (some_same sq.0 sr.0 (sym sq.1 ∙ sr.1)) sq.2) sr.2),
            ))
      ]
  inside_of q r (inr same) hq hr sq sr = same.1

  abbrev span_at : (k : ℕ) → Region → Span
  span_at k node = get_or are.spans k (span_of node)

  -- the region of the last node that holds the instruction is the innermost round it
  innermost : (node : Region) (last : IsLastRound body nodes i node) → IsInnermost body i (span_at last.0 node)
  innermost node last =
      let k = last.0 in
      let as_many = are.as_many in
      let below = last.1 in
      let lt : k < length are.spans = omega (arith, as_many, below) in
      let is : IsNode are.spans k (span_at k node) (get_or nodes k node) = node_of k (span_of node) node lt in
      let from : node.from ≡ (span_at k node).from = sym (ap (λ (n : Region). n.from) last.2) ∙ is.from in
      let to : node.to ≡ (span_at k node).to = sym (ap (λ (n : Region). n.to) last.2) ∙ is.to in
      let stands : StandsIn body (span_at k node) i = same_stands body i (span_of node) (span_at k node) from to last.3 in
      let has : Contains (spans_of body) (span_at k node) = among k (span_of node) lt in (
        has,
        stands,
        λ q hq sq.
            let h = holder q hq sq in
            elim (cases_lt h.0 k) [
              | inl before ↦
                  let pair : ComesBefore (get_or are.spans h.0 q) (get_or are.spans k q) = are.ordered h.0 k q before lt in
                  let one : ComesBefore q (get_or are.spans k q) = subst (λ (x : Span). ComesBefore x (get_or are.spans k q)) h.2 pair in
                  let both : ComesBefore q (span_at k node) = subst (λ (x : Span). ComesBefore q x) (get_or_default are.spans k q (span_of node) lt) one in
                  inr (inside_of q (span_at k node) both hq has sq stands)
              | inr after ↦ elim (cases_lt k h.0) [
                | inl beyond ↦
                    let within = h.1 in
                    absurd (last.4 h.0 node beyond (omega (arith, as_many, within)) (h.3 node))
                | inr down ↦
                    let same : h.0 ≡ k = omega (arith, after, down) in
                    inl (sym h.2 ∙ ap (λ (m : ℕ). get_or are.spans m q) same ∙ get_or_default are.spans k q (span_of node) lt)
              ]
            ],
      )

  kind_of : (node : Region) (last : IsLastRound body nodes i node) → (span_at last.0 node).kind ≡ node.kind
  kind_of node last =
      let k = last.0 in
      let as_many = are.as_many in
      let below = last.1 in
      let lt : k < length are.spans = omega (arith, as_many, below) in
      sym (node_of k (span_of node) node lt).kind ∙ ap (λ (n : Region). n.kind) last.2

  -- there is one
  one : (q r : Span) → IsInnermost body i q → IsInnermost body i r → q ≡ r
  one q r hq hr =
      elim (hr.2 q hq.0 hq.1) [
        | inl same ↦ same
        | inr in_q ↦ elim (hq.2 r hr.0 hr.1) [
          | inl same ↦ sym same
          | inr in_r ↦ absurd (inside_asym q r in_r in_q)
        ]
      ]

  pub ends : (node : Region) → IsLastRound body nodes i node → (b : Bool) → OnTrue b (node.kind ≡ Finally) → OnFalse b (node.kind ≡ Finally → ⊥) → OnTrue (not b) (EndsNoFinally body i)
  ends node last true is off = tt
  ends node last false is off = (span_at last.0 node, innermost node last, λ e. off (sym (kind_of node last) ∙ e))

  pub ends_not : (node : Region) → IsLastRound body nodes i node → (b : Bool) → OnTrue b (node.kind ≡ Finally) → OnFalse b (node.kind ≡ Finally → ⊥) → OnFalse (not b) (EndsNoFinally body i → ⊥)
  ends_not node last true is off = λ e. e.2 (ap (λ (x : Span). x.kind) (one e.0 (span_at last.0 node) e.1 (innermost node last)) ∙ kind_of node last ∙ is)
  ends_not node last false is off = tt

  pub none_round : HasNoneRound body nodes i → EndsNoFinally body i → ⊥
  none_round none e =
      let h = holder e.0 e.1.0 e.1.1 in
      let as_many = are.as_many in
      let within = h.1 in
      let d : Region = record { kind = e.0.kind; from = e.0.from; to = e.0.to; parent = 0 } in
      none h.0 d (omega (arith, as_many, within)) (h.3 d)
