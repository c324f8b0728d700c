-- A clause's try and its handler have one parent where the tables of parents say so.
use Rattle.std.proofs.Common.{◌≡◌, ℕ, ◌<◌, true, false, Option, Some, None, List, length, get_or, inl, inr, sym, refl, ap, ◌∙◌, subst, arith}
use Rattle.std.proofs.lemmas.Bool.{cases_order}
use Rattle.std.proofs.lemmas.List.{get_or_default}
use Rattle.std.proofs.lemmas.List.Sorted.{Contains-permutation, IsPermutation-sym}
use Rattle.std.specs.List.{AllPairs, Contains}
use Rattle.std.specs.List.Sorted.{IsPermutation}
use Rattle.std.specs.Option.{MatchOption}
use Rattle.cil_body.specs.declared.body.Body.{Body}
use Rattle.cil_body.specs.declared.body.Clause.{Clause}
use Rattle.cil_body.specs.declared.body.ClauseKind.{ClauseKind}
use Rattle.cil_body.specs.declared.body.ClauseKind.TheVariants.{Catch, Finally}
use Rattle.cil_regions.specs.declared.region.RegionKind.TheVariants.{Code}
use Rattle.cil_regions.specs.declared.region.Region.{Region}
use Rattle.cil_regions.specs.declared.region.Span.{Span}
use Rattle.cil_body.specs.Range.{HasRanges}
use Rattle.cil_regions.specs.Region.{HasClause, first_of, try_of, handler_of, handler_kind, spans_of, is_try, AreLaminar, IsParent, ShareParent, IsLooseAt, IsLeast}
use Rattle.cil_regions.specs.Laid.{AreFirsts, AreOrdered, AreChained, AreParents, AgreeAt, DisagreeAt, IsLeastDisagreement}
use Rattle.cil_regions.proofs.Chain.{no_node}
use Rattle.cil_regions.proofs.FirstSharing.{first_is}
use Rattle.cil_regions.proofs.Nested.{parent_is, one_parent}
use Rattle.cil_regions.proofs.Spans.{try_among, handler_among}
use Rattle.cil_regions.proofs.Whole.{are_laid}

pub parent_permuted : (xs ys : List Span) (r p : Span) → IsPermutation xs ys → IsParent xs r p → IsParent ys r p
parent_permuted xs ys r p moved h = record {
  among = Contains-permutation xs ys p moved h.among;
  inside = h.inside;
  innermost = λ q has. h.innermost q (Contains-permutation ys xs q (IsPermutation-sym xs ys moved) has);
}

handler_is_none : (c : Clause) (k : ClauseKind) → is_try (handler_kind c k) ≡ false
handler_is_none c Catch = refl
handler_is_none c Finally = refl

handler_not_code : (c : Clause) (k : ClauseKind) → handler_kind c k ≡ Code → ⊥
handler_not_code c Catch e = cc
handler_not_code c Finally e = cc

module _ (body : Body) (spans : List Span) (nodes : List Region) (h : HasRanges body) (ordered : AreOrdered body spans) (laminar : AllPairs AreLaminar spans) (chained : AreChained spans nodes) where
  -- the number of the parent of the region of number k
  parent_number : ℕ → ℕ
  parent_number k = (get_or nodes k no_node).parent

  parent_at : (k : ℕ) (d : Span) → 0 < k → k < length spans → (parent_number k < k) × IsParent spans (get_or spans k d) (get_or spans (parent_number k) d)
  unfolding parent_number
  parent_at k d pos lt =
      let laid = are_laid body spans h ordered in
      let link = chained.links.each k d no_node (omega (arith, chained.as_many)) in
      (link.before pos, parent_is spans laid laminar k (get_or nodes k no_node).parent d pos lt (link.before pos) (link.reaches d pos) (λ i above below. link.last i d above below))

  same_number : (p q : ℕ) (d : Span) → p < length spans → q < length spans → get_or spans p d ≡ get_or spans q d → p ≡ q
  same_number p q d u v same =
      elim (cases_order p q) [
        | inl is ↦ is
        | inr apart ↦ elim apart [
          | inl less ↦ absurd (ordered.named p q d less v (ap (λ (r : Span). r.first) same) (ap (λ (r : Span). is_try r.kind) same))
          | inr more ↦ absurd (ordered.named q p d more u (ap (λ (r : Span). r.first) (sym same)) (ap (λ (r : Span). is_try r.kind) (sym same)))
        ]
      ]

  -- a region other than the whole code, under its number
  record IsAt (r : Span) (k : ℕ) : Type 0 where
    pos : 0 < k
    within : k < length spans
    is : get_or spans k r ≡ r

  place_of : (r : Span) → (r.kind ≡ Code → ⊥) → Contains (spans_of body) r → (k : ℕ) × IsAt r k
  place_of r part among =
      let has = Contains-permutation (spans_of body) spans r ordered.all among in (
        has.0,
        record {
          pos = elim (cases_order has.0 0) [
            | inl is ↦
                absurd (part (ap (λ (s : Span). s.kind) (sym has.2 ∙ ap (λ n. get_or spans n r) is) ∙ (are_laid body spans h ordered).whole r))
            | inr apart ↦ elim apart [ inl less ↦ absurd (omega arith) | inr more ↦ more ]
          ];
          within = has.1;
          is = has.2;
        },
      )

  parent_of : (r : Span) (k : ℕ) → IsAt r k → IsParent spans r (get_or spans (parent_number k) r)
  parent_of r k at = subst (λ s. IsParent spans s (get_or spans (parent_number k) r)) at.is (parent_at k r at.pos at.within).1

  -- two regions have one parent where their parents have one number
  one_number : (r s p : Span) (a b : ℕ) → IsAt r a → IsAt s b → IsParent spans r p → IsParent spans s p → parent_number a ≡ parent_number b
  one_number r s p a b at_r at_s of_r of_s =
      let before_a = (parent_at a r at_r.pos at_r.within).0 in
      let before_b = (parent_at b r at_s.pos at_s.within).0 in
      let inside : parent_number b < length spans = omega (arith, before_b, at_s.within) in
      same_number (parent_number a) (parent_number b) r (omega (arith, before_a, at_r.within)) inside
      (one_parent spans r (get_or spans (parent_number a) r) p (parent_of r a at_r) of_r
      ∙ one_parent spans s p (get_or spans (parent_number b) s) of_s (parent_of s b at_s)
      ∙ get_or_default spans (parent_number b) s r inside)

  same_parent : (r s : Span) (a b : ℕ) → IsAt r a → IsAt s b → parent_number a ≡ parent_number b → IsParent spans s (get_or spans (parent_number a) r)
  same_parent r s a b at_r at_s same =
      let before = (parent_at b s at_s.pos at_s.within).0 in
      let inside : parent_number b < length spans = omega (arith, before, at_s.within) in
      subst (IsParent spans s) (get_or_default spans (parent_number b) s r inside ∙ ap (λ n. get_or spans n r) (sym same)) (parent_of s b at_s)

  module _ (firsts tries handlers : List ℕ) (numbers : AreFirsts body.clauses firsts) (of_tries : AreParents spans nodes true (length body.clauses) tries) (of_handlers : AreParents spans nodes false (length body.clauses) handlers) where
    module _ (i : ℕ) (c : Clause) (has : HasClause body i c) where
      try_at : (k : ℕ) × IsAt (try_of body.clauses i c) k
      try_at =
          let first = first_is body.clauses i c has.0 has.1 in
          place_of (try_of body.clauses i c) (λ e. cc)
          (subst (Contains (spans_of body)) first.same (try_among body (first_of body.clauses i c) first.clause (first.within, first.at) first.itself))

      handler_at : (k : ℕ) × IsAt (handler_of i c) k
      handler_at = place_of (handler_of i c) (handler_not_code c c.kind) (handler_among body i c has)

      -- what the tables say of them
      try_parent : get_or tries (get_or firsts i 0) 0 ≡ parent_number try_at.0
      unfolding parent_number
      try_parent =
          let first = first_is body.clauses i c has.0 has.1 in
          let at = try_at.1 in
          let number : (get_or spans try_at.0 (try_of body.clauses i c)).first ≡ first_of body.clauses i c = ap (λ (s : Span). s.first) at.is in
          let table = of_tries.each try_at.0 (try_of body.clauses i c) no_node at.within (ap (λ (s : Span). is_try s.kind) at.is) (omega (arith, number, first.within)) in
          ap (λ n. get_or tries n 0) (numbers.each i c has.0 ∙ ap (first_of body.clauses i) has.1 ∙ sym number) ∙ table

      handler_parent : get_or handlers i 0 ≡ parent_number handler_at.0
      unfolding parent_number
      handler_parent =
          let at = handler_at.1 in
          let number : (get_or spans handler_at.0 (handler_of i c)).first ≡ i = ap (λ (s : Span). s.first) at.is in
          let table =
          of_handlers.each handler_at.0 (handler_of i c) no_node at.within (ap (λ (s : Span). is_try s.kind) at.is ∙ handler_is_none c c.kind) (omega (arith, number, has.0)) in
          ap (λ n. get_or handlers n 0) (sym number) ∙ table

      agree_from_share : ShareParent body i c → AgreeAt firsts tries handlers i
      agree_from_share share =
          try_parent
          ∙ one_number (try_of body.clauses i c) (handler_of i c) share.0 try_at.0 handler_at.0 try_at.1 handler_at.1
          (parent_permuted (spans_of body) spans (try_of body.clauses i c) share.0 ordered.all share.1)
          (parent_permuted (spans_of body) spans (handler_of i c) share.0 ordered.all share.2)
          ∙ sym handler_parent

      share_from_agree : AgreeAt firsts tries handlers i → ShareParent body i c
      share_from_agree agree =
          let same : parent_number try_at.0 ≡ parent_number handler_at.0 = sym try_parent ∙ agree ∙ handler_parent in
          let back = IsPermutation-sym (spans_of body) spans ordered.all in
          let p = get_or spans (parent_number try_at.0) (try_of body.clauses i c) in (
            p,
            parent_permuted spans (spans_of body) (try_of body.clauses i c) p back (parent_of (try_of body.clauses i c) try_at.0 try_at.1),
            parent_permuted spans (spans_of body) (handler_of i c) p back (same_parent (try_of body.clauses i c) (handler_of i c) try_at.0 handler_at.0 try_at.1 handler_at.1 same),
          )

    loose_from : (place : ℕ) → DisagreeAt body.clauses firsts tries handlers (length body.clauses) place → IsLooseAt body place
    loose_from place d = (d.0, d.1, (d.2, d.3), (λ share. d.4 (agree_from_share d.0 d.1 (d.2, d.3) share)), d.5)

    disagree_from : (place : ℕ) → IsLooseAt body place → DisagreeAt body.clauses firsts tries handlers (length body.clauses) place
    disagree_from place l = (l.0, l.1, l.2.0, l.2.1, (λ agree. l.3 (share_from_agree l.0 l.1 l.2 agree)), l.4)

    -- the least place of a loose region, if there is one
    pub loose_found : (found : Option ℕ) → IsLeastDisagreement body.clauses firsts tries handlers (length body.clauses) found → MatchOption found ((place : ℕ) → IsLooseAt body place → ⊥) (IsLeast (IsLooseAt body))
    loose_found None none = λ place l. none place (disagree_from place l)
    loose_found (Some place) least = (loose_from place least.0, λ p less l. least.1 p less (disagree_from p l))
