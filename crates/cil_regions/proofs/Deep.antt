-- The depths of nodes, one after another.
use Rattle.std.proofs.Common.{◌≡◌, ℕ, ◌+◌, ◌<◌, ◌≤◌, List, [], ◌∷◌, ◌++◌, length, get_or, inl, inr, sym, ap, ◌∙◌, arith, length-append}
use Rattle.std.proofs.Math.ListN.{get_or-append}
use Rattle.std.proofs.lemmas.Bool.{cases_lt, cases_order}
use Rattle.std.proofs.lemmas.List.{get_or_default, get_or_push}
use Rattle.cil_regions.specs.declared.region.Region.{Region}
use Rattle.cil_regions.specs.Laid.{AreLinked, AreDepths, IsTooDeep}

module _ (nodes : List Region) (depths : List ℕ) (k depth : ℕ) (e : Region) (linked : AreLinked nodes) (many : length depths ≡ k) (within : k < length nodes) (h : AreDepths nodes depths) (first : k ≡ 0 → depth ≡ 0) (more : 0 < k → depth ≡ get_or depths (get_or nodes k e).parent 0 + 1) where
  pub depths_more : (new : List ℕ) → depth ≤ 40 → new ≡ depths ++ depth ∷ [] → AreDepths nodes new
  depths_more new shallow grown =
      let old : (i : ℕ) → i < k → get_or new i 0 ≡ get_or depths i 0 =
      λ i lt. ap (λ xs. get_or xs i 0) grown ∙ get_or-append depths (depth ∷ []) 0 i (omega (arith, many)) in
      let last : get_or new k 0 ≡ depth = ap (λ xs. get_or xs k 0) grown ∙ get_or_push depths depth 0 k many in
      let length_new : length new ≡ k + 1 = omega (arith, ap length grown, length-append depths (depth ∷ []), many) in
      record {
        few = omega (arith, length_new);
        first = λ some. elim (cases_order k 0) [
          | inl is ↦ ap (λ i. get_or new i 0) (sym is) ∙ last ∙ first is
          | inr apart ↦ elim apart [ inl less ↦ absurd (omega arith) | inr pos ↦ old 0 pos ∙ h.first (omega (arith, many)) ]
        ];
        more = λ i d pos lt.
            elim (cases_lt i k) [
              | inl early ↦
                  let before = linked.before i d pos (omega (arith, within)) in
                  let base = h.more i d pos (omega (arith, many)) in
                  omega (arith, old i early, base, old (get_or nodes i d).parent (omega (arith, before)))
              | inr past ↦
                  let here : i ≡ k = omega (arith, length_new) in
                  let same : get_or nodes i d ≡ get_or nodes k e = get_or_default nodes i d e (omega (arith, within, here)) ∙ ap (λ n. get_or nodes n e) here in
                  let parent : (get_or nodes i d).parent ≡ (get_or nodes k e).parent = ap (λ (r : Region). r.parent) same in
                  let before = linked.before k e (omega (arith, here)) within in
                  omega (arith, ap (λ n. get_or new n 0) here, last, more (omega (arith, here)), old (get_or nodes k e).parent before, ap (λ n. get_or new n 0) parent)
            ];
        shallow = λ i lt.
            elim (cases_lt i k) [
              | inl early ↦ omega (arith, old i early, h.shallow i (omega (arith, many)))
              | inr past ↦
                  let here : i ≡ k = omega (arith, length_new) in
                  omega (arith, ap (λ n. get_or new n 0) here, last, shallow)
            ];
      }

  pub too_deep : (place : ℕ) → 40 < depth → place ≡ (get_or nodes k e).from → IsTooDeep nodes depths place
  too_deep place deep is =
      let pos : 0 < k = elim (cases_order k 0) [ inl zero' ↦ absurd (omega (arith, first zero')) | inr apart ↦ elim apart [ inl less ↦ absurd (omega arith) | inr more ↦ more ] ] in
      let at : (d : Region) → get_or nodes (length depths) d ≡ get_or nodes k e = λ d. ap (λ n. get_or nodes n d) many ∙ get_or_default nodes k d e within in
      record {
        fine = h;
        some = omega (arith, many);
        within = omega (arith, many);
        from = λ d. is ∙ ap (λ (r : Region). r.from) (sym (at d));
        deep = λ d. omega (arith, more pos, ap (λ n. get_or depths n 0) (ap (λ (r : Region). r.parent) (at d)));
      }

pub many_more : (depths new : List ℕ) (k depth : ℕ) → length depths ≡ k → new ≡ depths ++ depth ∷ [] → length new ≡ k + 1
many_more depths new k depth many is = omega (arith, ap length is, length-append depths (depth ∷ []))
