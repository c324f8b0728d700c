-- The sorted regions of a body are all of them in the order of its tree.
use Rattle.std.proofs.Common.{◌≡◌, ℕ, suc, inl, inr, Bool, true, false, not, ◌&&◌, eqb, List, [], ◌∷◌, sym, ◌∙◌, subst, arith}
use Rattle.std.proofs.lemmas.Bool.{both_ways, eqb-true, eq-eqb, and_parts, and_from, false_from_ne_true, cases_Bool}
use Rattle.std.proofs.lemmas.List.Elements.{All-weaker, All-from_recursion, recursion_from_All}
use Rattle.std.proofs.lemmas.List.Kept.{AllPairs-cons}
use Rattle.std.proofs.lemmas.Map.Keys.{IsDistinct-IsPermutation}
use Rattle.std.specs.Cmp.{booleans_Decides}
use mathlib.Core.Bool.{beq}
use Rattle.std.specs.List.{AllPairs, IsDistinct}
use Rattle.std.specs.List.Sorted.{IsPermutation, IsSortedBy}
use Rattle.std.specs.declared.cmp.Reverse.{Reverse}
use Rattle.cil_body.specs.declared.body.Body.{Body}
use Rattle.cil_regions.specs.declared.region.Span.{Span}
use Rattle.cil_regions.specs.Region.{is_try, spans_of}
use Rattle.cil_regions.specs.Laid.{DifferInName, AreOrdered}
use Rattle.cil_regions.proofs.Order.{key_less, ordered_from_sorted}
use Rattle.cil_regions.proofs.Spans.{spans_apart}

-- by which regions are sorted
abbrev pub key : Span → ℕ × Reverse ℕ × Reverse ℕ × Bool
key s = (s.from, record { 0 = s.to }, record { 0 = s.first }, not (is_try s.kind))

same_name : Span → Span → Bool
same_name r s = eqb r.first s.first && beq (is_try r.kind) (is_try s.kind)

same_parts : (r s : Span) → same_name r s ≡ true → (s.first ≡ r.first) × (is_try s.kind ≡ is_try r.kind)
unfolding same_name
same_parts r s h =
    let both = and_parts (eqb r.first s.first) (beq (is_try r.kind) (is_try s.kind)) h in
    (sym (eqb-true r.first s.first both.0), sym ((booleans_Decides (is_try r.kind) (is_try s.kind)).0 both.1))

same_from : (r s : Span) → (r.first ≡ s.first) × (is_try r.kind ≡ is_try s.kind) → same_name r s ≡ true
unfolding same_name
same_from r s h =
    and_from (eqb r.first s.first) (beq (is_try r.kind) (is_try s.kind)) (eq-eqb r.first s.first h.0)
    ((booleans_Decides (is_try r.kind) (is_try s.kind)).1 h.1)

flips : (r s : Span) → same_name r s ≡ same_name s r
flips r s =
    elim (cases_Bool (same_name r s)) [
      | inl t ↦ t ∙ sym (same_from s r (same_parts r s t))
      | inr f ↦ f ∙ sym (false_from_ne_true (same_name s r) (λ t. both_ways (same_name r s) f (same_from r s (same_parts s r t))))
    ]

apart_from_differ : (r s : Span) → DifferInName r s → same_name r s ≡ false
apart_from_differ r s h =
    false_from_ne_true (same_name r s) (λ t. let same = same_parts r s t in h (sym same.0) (sym same.1))

differ_from_apart : (r s : Span) → same_name r s ≡ false → DifferInName r s
differ_from_apart r s h e t = both_ways (same_name r s) h (same_from r s (e, t))

distinct : (spans : List Span) → AllPairs DifferInName spans → IsDistinct same_name spans
unfolding IsDistinct
distinct [] h = tt
distinct (r ∷ spans) h = (
  recursion_from_All (λ s. same_name r s ≡ false) spans
      (All-weaker (DifferInName r) (λ s. same_name r s ≡ false) (λ s. apart_from_differ r s) spans (λ k d lt. h 0 (suc k) d (omega arith) (omega arith))),
  distinct spans (λ i j d lt within. h (suc i) (suc j) d (omega arith) (omega arith)),
)

apart : (spans : List Span) → IsDistinct same_name spans → AllPairs DifferInName spans
unfolding IsDistinct
apart [] h = λ i j d lt within. absurd (omega arith)
apart (r ∷ spans) h =
    AllPairs-cons DifferInName r spans
    (All-weaker (λ s. same_name r s ≡ false) (DifferInName r) (λ s. differ_from_apart r s) spans (All-from_recursion (λ s. same_name r s ≡ false) spans h.0))
    (apart spans h.1)

pub apart_permuted : (xs ys : List Span) → IsPermutation xs ys → AllPairs DifferInName xs → AllPairs DifferInName ys
apart_permuted xs ys moved h = apart ys (IsDistinct-IsPermutation same_name flips xs ys moved (distinct xs h))

pub are_ordered : (body : Body) (spans sorted : List Span) → spans ≡ spans_of body → IsPermutation spans sorted → IsSortedBy key_less sorted → AreOrdered body sorted
are_ordered body spans sorted is moved up =
    let all : IsPermutation (spans_of body) sorted = subst (λ ss. IsPermutation ss sorted) is moved in
    let named = apart_permuted (spans_of body) sorted all (spans_apart body) in
    record { all = all; named = named; ordered = ordered_from_sorted sorted named up }
