-- The parents of tries, or of handlers, in a table.
use Rattle.std.proofs.Common.{◌≡◌, ℕ, ◌+◌, ◌<◌, ◌≤◌, Bool, List, length, get_or, set, inl, inr, sym, ap, ◌∙◌, arith, get_or-set_same, get_or-set_other, length-set}
use Rattle.std.proofs.lemmas.Bool.{cases_lt}
use Rattle.std.proofs.lemmas.List.{get_or_default}
use Rattle.std.specs.List.{AllPairs}
use Rattle.cil_regions.specs.declared.region.Region.{Region}
use Rattle.cil_regions.specs.declared.region.Span.{Span}
use Rattle.cil_regions.specs.Region.{is_try}
use Rattle.cil_regions.specs.Laid.{DifferInName, AreParents}

-- the table as far as the first n regions
pub record AreParentsUpto (spans : List Span) (nodes : List Region) (tries : Bool) (count n : ℕ) (parents : List ℕ) : Type 0 where
  pub as_many : length parents ≡ count
  pub each : (k : ℕ) (s : Span) (node : Region) → k < n → is_try (get_or spans k s).kind ≡ tries → (get_or spans k s).first < count → get_or parents (get_or spans k s).first 0 ≡ (get_or nodes k node).parent

pub parents_all : (spans : List Span) (nodes : List Region) (tries : Bool) (count n : ℕ) (parents : List ℕ) → length spans ≤ n → AreParentsUpto spans nodes tries count n parents → AreParents spans nodes tries count parents
parents_all spans nodes tries count n parents past h = record {
  as_many = h.as_many;
  each = λ k s node lt is within. h.each k s node (omega arith) is within;
}

module _ (spans : List Span) (nodes : List Region) (tries : Bool) (count n : ℕ) (parents : List ℕ) (d : Span) (e : Region) (named : AllPairs DifferInName spans) (within : n < length spans) (as_many : length nodes ≡ length spans) (h : AreParentsUpto spans nodes tries count n parents) where
  -- a region of the other kind, or one that no clause begins, changes nothing
  pub parents_kept : (is_try (get_or spans n d).kind ≡ tries → (get_or spans n d).first < count → ⊥) → AreParentsUpto spans nodes tries count (n + 1) parents
  parents_kept other = record {
    as_many = h.as_many;
    each = λ k s node lt is inside.
        elim (cases_lt k n) [
          | inl early ↦ h.each k s node early is inside
          | inr past ↦
              let here : k ≡ n = omega arith in
              let same : get_or spans k s ≡ get_or spans n d = ap (λ i. get_or spans i s) here ∙ get_or_default spans n s d within in
              absurd (other (sym (ap (λ (r : Span). is_try r.kind) same) ∙ is) (omega (arith, inside, ap (λ (r : Span). r.first) same)))
        ];
  }

  pub parents_more : is_try (get_or spans n d).kind ≡ tries → (get_or spans n d).first < count → AreParentsUpto spans nodes tries count (n + 1) (set parents (get_or spans n d).first (get_or nodes n e).parent)
  parents_more kind below = record {
    as_many = length-set parents (get_or spans n d).first (get_or nodes n e).parent ∙ h.as_many;
    each = λ k s node lt is inside.
        elim (cases_lt k n) [
          | inl early ↦
              let same : get_or spans n d ≡ get_or spans n s = get_or_default spans n d s within in
              let apart : (get_or spans k s).first ≡ (get_or spans n d).first → ⊥ =
              λ t. named k n s early within (t ∙ ap (λ (r : Span). r.first) same) (is ∙ sym kind ∙ ap (λ (r : Span). is_try r.kind) same) in
              get_or-set_other parents (get_or spans n d).first (get_or spans k s).first (get_or nodes n e).parent 0 apart ∙ h.each k s node early is inside
          | inr past ↦
              let here : k ≡ n = omega arith in
              let same : get_or spans k s ≡ get_or spans n d = ap (λ i. get_or spans i s) here ∙ get_or_default spans n s d within in
              let node_same : get_or nodes n e ≡ get_or nodes k node = get_or_default nodes n e node (omega (arith, as_many)) ∙ ap (λ i. get_or nodes i node) (sym here) in
              let inside' : (get_or spans n d).first < length parents = omega (arith, below, h.as_many) in
              ap (λ (r : Span). get_or (set parents (get_or spans n d).first (get_or nodes n e).parent) r.first 0) same
              ∙ get_or-set_same parents (get_or spans n d).first (get_or nodes n e).parent 0 inside'
              ∙ ap (λ (r : Region). r.parent) node_same
        ];
  }
