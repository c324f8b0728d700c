-- The depths of nodes are those of their regions.
use Rattle.std.proofs.Common.{◌≡◌, ℕ, zero, suc, ◌+◌, ◌<◌, ◌≤◌, cond, List, length, get_or, inl, inr, sym, ap, ◌∙◌, arith}
use Rattle.std.proofs.lemmas.Bool.{cases_lt, cases_order}
use Rattle.std.proofs.lemmas.List.{get_or_default}
use Rattle.std.proofs.lemmas.List.Elements.{Contains-get_or}
use Rattle.std.proofs.lemmas.List.Sorted.{Contains-permutation, IsPermutation-sym, sum_by-IsPermutation}
use Rattle.cil_body.specs.declared.body.Body.{Body}
use Rattle.cil_regions.specs.declared.region.Region.{Region}
use Rattle.cil_regions.specs.declared.region.Span.{Span}
use Rattle.cil_regions.specs.Region.{spans_of, is_inside, depth_of, IsDeepAt, IsLeast}
use Rattle.cil_regions.specs.Laid.{IsLink, AreDepths, IsTooDeep, IsTree}
use Rattle.cil_regions.proofs.Chain.{starts_rise, no_span, no_node}
use Rattle.cil_regions.proofs.Depth.{depth_first, depth_more}

module _ (body : Body) (nodes : List Region) (tree : IsTree body nodes) where
  at_link : (k : ℕ) → k < length nodes → IsLink tree.spans k (get_or tree.spans k no_span) (get_or nodes k no_node)
  at_link k lt = tree.chained.links.each k no_span no_node lt

  -- the depth of a region is that of its parent and one
  depth_up : (k : ℕ) → 0 < k → k < length nodes → depth_of tree.spans (get_or tree.spans k no_span) ≡ depth_of tree.spans (get_or tree.spans (get_or nodes k no_node).parent no_span) + 1
  depth_up k pos lt =
      let link = at_link k lt in
      depth_more tree.spans tree.laid tree.laminar k (get_or nodes k no_node).parent no_span pos (omega (arith, lt, tree.chained.as_many)) (link.before pos) (link.reaches no_span pos) (λ i above below. link.last i no_span above below)

  module _ (depths : List ℕ) (h : AreDepths nodes depths) where
    depth_below : (n k : ℕ) → k < n → k < length depths → get_or depths k 0 ≡ depth_of tree.spans (get_or tree.spans k no_span)
    depth_below zero k lt within = absurd (omega arith)
    depth_below (suc n) k lt within =
        elim (cases_order k 0) [
          | inl is ↦
              ap (λ i. get_or depths i 0) is ∙ h.first (omega (arith, within)) ∙ sym (depth_first tree.spans tree.laid tree.laminar no_span)
              ∙ ap (λ i. depth_of tree.spans (get_or tree.spans i no_span)) (sym is)
          | inr apart ↦ elim apart [
            | inl less ↦ absurd (omega arith)
            | inr pos ↦
                let lt' : k < length nodes = omega (arith, within, h.few) in
                let p = (get_or nodes k no_node).parent in
                let before = (at_link k lt').before pos in
                let rest = depth_below n p (omega (arith, before)) (omega (arith, before, within)) in
                let up = depth_up k pos lt' in
                let more = h.more k no_node pos within in
                omega (arith, rest, up, more)
          ]
        ]

    depth_is : (k : ℕ) → k < length depths → get_or depths k 0 ≡ depth_of tree.spans (get_or tree.spans k no_span)
    depth_is k within = depth_below (k + 1) k (omega arith) within

    same_depth : (r : Span) → depth_of (spans_of body) r ≡ depth_of tree.spans r
    same_depth r = sym (sum_by-IsPermutation (λ q. cond (is_inside r q) 1 0) (spans_of body) tree.spans tree.ordered.all)

    -- a region that stands too deep is none of these
    deep_behind : (place : ℕ) (deep : IsDeepAt body place) → (k : ℕ) × (k < length tree.spans) × (length depths ≤ k) × (place ≡ (get_or tree.spans k no_span).from)
    deep_behind place deep =
        let r = deep.0 in
        let has = Contains-permutation (spans_of body) tree.spans r tree.ordered.all deep.1 in
        let here : get_or tree.spans has.0 no_span ≡ r = get_or_default tree.spans has.0 no_span r has.1 ∙ has.2 in (
          has.0,
          has.1,
          elim (cases_lt has.0 (length depths)) [
            | inl early ↦
                let depth = depth_is has.0 early in
                let least = h.shallow has.0 early in
                absurd (omega (arith, depth, least, ap (λ (s : Span). depth_of tree.spans s) here, same_depth r, deep.3))
            | inr past ↦ past
          ],
          sym deep.2 ∙ ap (λ (s : Span). s.from) (sym here),
        )

    pub none_deep : length depths ≡ length nodes → (place : ℕ) → IsDeepAt body place → ⊥
    none_deep many place deep =
        let behind = deep_behind place deep in
        omega (arith, behind.1, behind.2, many, tree.chained.as_many)

  pub least_deep : (depths : List ℕ) (place : ℕ) → IsTooDeep nodes depths place → IsLeast (IsDeepAt body) place
  least_deep depths place deep =
      let k = length depths in
      let within : k < length tree.spans = omega (arith, deep.within, tree.chained.as_many) in
      let s = get_or tree.spans k no_span in
      let link = at_link k deep.within in
      let p = (get_or nodes k no_node).parent in
      let before = link.before deep.some in
      let up = depth_up k deep.some deep.within in
      let base = depth_is depths deep.fine p before in
      let least = deep.deep no_node in
      let start : place ≡ s.from = deep.from no_node ∙ link.from in (
        (
          s,
          Contains-permutation tree.spans (spans_of body) s (IsPermutation-sym (spans_of body) tree.spans tree.ordered.all) (Contains-get_or tree.spans k no_span within),
          sym start,
          omega (arith, up, base, least, same_depth depths deep.fine s),
        ),
        λ q less other.
            let behind = deep_behind depths deep.fine q other in
            elim (cases_order k behind.0) [
              | inl is ↦ omega (arith, start, behind.3, less, ap (λ n. (get_or tree.spans n no_span).from) is)
              | inr apart ↦ elim apart [
                | inl more ↦
                    let rise = starts_rise tree.spans tree.laid k behind.0 no_span more behind.1 in
                    omega (arith, start, behind.3, less, rise)
                | inr fewer ↦ omega (arith, behind.2, fewer)
              ]
            ],
      )
