-- What it says of a body that its sorted regions are laminar, or that some cross.
use Rattle.std.proofs.Common.{◌≡◌, ℕ, Option, Some, None, List, get_or, inl, inr, refl, ◌∙◌, subst}
use Rattle.std.proofs.lemmas.Bool.{cases_order}
use Rattle.std.proofs.lemmas.List.{get_or_default}
use Rattle.std.proofs.lemmas.List.Sorted.{Contains-permutation, IsPermutation-sym}
use Rattle.std.specs.List.{AllPairs}
use Rattle.std.specs.List.Sorted.{IsPermutation}
use Rattle.std.specs.Option.{MatchOption}
use Rattle.cil_body.specs.declared.body.Body.{Body}
use Rattle.cil_regions.specs.declared.region.Region.{Region}
use Rattle.cil_regions.specs.declared.region.Span.{Span}
use Rattle.cil_body.specs.Range.{HasRanges}
use Rattle.cil_regions.specs.Region.{spans_of, AreLaminar, CrossesAt, IsLeast, IsLaminar, IsLooseAt, IsNested, IsBadNest}
use Rattle.cil_regions.specs.Laid.{AreOrdered, AreChained, IsTree}
use Rattle.cil_regions.proofs.Crossing.{laminar_back, laminar_itself}
use Rattle.cil_regions.proofs.Whole.{are_laid}

crosses_from : (xs ys : List Span) → IsPermutation xs ys → (place : ℕ) → CrossesAt xs place → CrossesAt ys place
crosses_from xs ys moved place c =
    (c.0, c.1, Contains-permutation xs ys c.0 moved c.2, Contains-permutation xs ys c.1 moved c.3, c.4, c.5)

module _ (body : Body) (spans : List Span) (ordered : AreOrdered body spans) where
  pub bad_crossing : (place : ℕ) → IsLeast (CrossesAt spans) place → IsBadNest body place
  bad_crossing place least =
      let back = IsPermutation-sym (spans_of body) spans ordered.all in
      inl (
        crosses_from spans (spans_of body) back place least.0,
        λ p less c. least.1 p less (crosses_from (spans_of body) spans ordered.all p c),
      )

  pub is_laminar : AllPairs AreLaminar spans → IsLaminar body
  is_laminar laminar place c =
      let r = c.0 in
      let s = c.1 in
      let a = Contains-permutation (spans_of body) spans r ordered.all c.2 in
      let b = Contains-permutation (spans_of body) spans s ordered.all c.3 in
      let at_s : get_or spans b.0 r ≡ s = get_or_default spans b.0 r s b.1 ∙ b.2 in
      let apart : AreLaminar (get_or spans a.0 r) (get_or spans b.0 r) → ⊥ = λ l. c.5 (subst (λ u. AreLaminar u s) a.2 (subst (AreLaminar (get_or spans a.0 r)) at_s l)) in
      elim (cases_order a.0 b.0) [
        | inl is ↦ apart (subst (λ n. AreLaminar (get_or spans a.0 r) (get_or spans n r)) is (laminar_itself (get_or spans a.0 r)))
        | inr other ↦ elim other [
          | inl up ↦ apart (laminar a.0 b.0 r up b.1)
          | inr down ↦ apart (laminar_back (get_or spans b.0 r) (get_or spans a.0 r) (laminar b.0 a.0 r down a.1))
        ]
      ]

pub bad_loose : (body : Body) (found : Option ℕ) (place : ℕ) → IsLaminar body → MatchOption found ((place : ℕ) → IsLooseAt body place → ⊥) (IsLeast (IsLooseAt body)) → found ≡ Some place → IsBadNest body place
bad_loose body found place laminar least is =
    let here = subst (λ o. MatchOption o ((place : ℕ) → IsLooseAt body place → ⊥) (IsLeast (IsLooseAt body))) is least in
    inr (laminar, here)

pub is_nested : (body : Body) (found : Option ℕ) → IsLaminar body → MatchOption found ((place : ℕ) → IsLooseAt body place → ⊥) (IsLeast (IsLooseAt body)) → ((place : ℕ) → found ≡ Some place → ⊥) → IsNested body
is_nested body None laminar none off = (laminar, none)
is_nested body (Some place) laminar least off = absurd (off place refl)

pub is_tree : (body : Body) (spans : List Span) (nodes : List Region) → HasRanges body → AreOrdered body spans → AllPairs AreLaminar spans → AreChained spans nodes → IsTree body nodes
is_tree body spans nodes h ordered laminar chained = record {
  spans = spans;
  ordered = ordered;
  laid = are_laid body spans h ordered;
  laminar = laminar;
  chained = chained;
}
