-- Nodes and regions.
use Rattle.std.proofs.Common.{◌≡◌, ℕ, ◌<◌, Bool, true, false, List, length, get_or, sym, ap, ◌∙◌, subst, arith}
use Rattle.std.proofs.lemmas.List.{get_or_default}
use Rattle.std.proofs.lemmas.List.Elements.{Contains-get_or}
use Rattle.std.proofs.lemmas.List.Sorted.{Contains-permutation, IsPermutation-sym}
use Rattle.std.specs.Bool.{OnTrue, OnFalse}
use Rattle.std.specs.List.{Contains}
use Rattle.cil_body.specs.declared.body.Body.{Body}
use Rattle.cil_regions.specs.declared.region.RegionKind.{RegionKind}
use Rattle.cil_regions.specs.declared.region.Region.{Region}
use Rattle.cil_regions.specs.declared.region.Span.{Span}
use Rattle.cil_regions.specs.Region.{AreNodes, IsNode, spans_of}
use Rattle.verify_spots.specs.Spots.{HasRegion}
use Rattle.verify_spots.specs.declared.region.Question.{Question}
use Rattle.verify_spots.specs.declared.region.Question.TheVariants.{BeginsTry}
use Rattle.verify_spots.specs.Questions.{Asks, HasNode, HasNoNode, span_of}

-- what holds of the kind and the range of a region holds of its node, and the other way round
module _ (Fact : RegionKind → ℕ → ℕ → Type 0) where
  moved : (k l : RegionKind) (a b c d : ℕ) → k ≡ l → a ≡ b → c ≡ d → Fact k a c → Fact l b d
  moved k l a b c d e f g h = subst (λ (t : ℕ). Fact l b t) g (subst (λ (x : ℕ). Fact l x c) f (subst (λ (m : RegionKind). Fact m a c) e h))

  module _ (body : Body) (nodes : List Region) (are : AreNodes body nodes) where
    on : Span → Type 0
    on r = Fact r.kind r.from r.to

    to_region : (node : Region) → Contains nodes node → Fact node.kind node.from node.to → (r : Span) × Contains (spans_of body) r × Fact r.kind r.from r.to
    to_region node has fact =
        let as_many = are.as_many in
        let lt = has.1 in
        let within : has.0 < length are.spans = omega (arith, as_many, lt) in
        let r : Span = get_or are.spans has.0 (span_of node) in
        let is : IsNode are.spans has.0 r (get_or nodes has.0 node) = are.each has.0 (span_of node) node within in
        let among : Contains are.spans r = Contains-get_or are.spans has.0 (span_of node) within in (
          r,
          Contains-permutation are.spans (spans_of body) r (IsPermutation-sym (spans_of body) are.spans are.all) among,
          moved node.kind r.kind node.from r.from node.to r.to
              (sym (ap (λ (n : Region). n.kind) has.2) ∙ is.kind) (sym (ap (λ (n : Region). n.from) has.2) ∙ is.from) (sym (ap (λ (n : Region). n.to) has.2) ∙ is.to) fact,
        )

    to_node : (r : Span) → Contains (spans_of body) r → Fact r.kind r.from r.to → (node : Region) × Contains nodes node × Fact node.kind node.from node.to
    to_node r among fact =
        let has : Contains are.spans r = Contains-permutation (spans_of body) are.spans r are.all among in
        let as_many = are.as_many in
        let lt = has.1 in
        let within : has.0 < length nodes = omega (arith, as_many, lt) in
        let d : Region = record { kind = r.kind; from = r.from; to = r.to; parent = 0 } in
        let node : Region = get_or nodes has.0 d in
        let is : IsNode are.spans has.0 (get_or are.spans has.0 r) node = are.each has.0 r d has.1 in (
          node,
          Contains-get_or nodes has.0 d within,
          moved r.kind node.kind r.from node.from r.to node.to
              (sym (is.kind ∙ ap (λ (x : Span). x.kind) has.2)) (sym (is.from ∙ ap (λ (x : Span). x.from) has.2)) (sym (is.to ∙ ap (λ (x : Span). x.to) has.2)) fact,
        )

-- which clause a region is of is not asked
module _ (body : Body) (i j : ℕ) where
  to_any : (question : Question) (r : Span) → Asks body question i j (record { kind = r.kind; from = r.from; to = r.to; first = 0 }) → Asks body question i j r
  to_any BeginsTry r h = h
  to_any _ r h = h

  from_any : (question : Question) (r : Span) → Asks body question i j r → Asks body question i j (record { kind = r.kind; from = r.from; to = r.to; first = 0 })
  from_any BeginsTry r h = h
  from_any _ r h = h

module _ (body : Body) (nodes : List Region) (are : AreNodes body nodes) (question : Question) (i j : ℕ) where
  pub some : (b : Bool) → OnTrue b (HasNode (Asks body question i j) nodes) → OnTrue b (HasRegion body (Asks body question i j))
  some true h =
      let r = to_region (λ k f t. Asks body question i j (record { kind = k; from = f; to = t; first = 0 })) body nodes are h.0 h.1 h.2 in
      (r.0, r.1, to_any body i j question r.0 r.2)
  some false h = tt

  pub none : (b : Bool) → OnFalse b (HasNoNode (Asks body question i j) nodes) → OnFalse b (HasRegion body (Asks body question i j) → ⊥)
  none true h = tt
  none false h = λ has.
      let n = to_node (λ k f t. Asks body question i j (record { kind = k; from = f; to = t; first = 0 })) body nodes are has.0 has.1 (from_any body i j question has.0 has.2) in h n.0 n.1 n.2

-- items one after another
pub none_here : {A : Type 0} (Fact : A → Type 0) (xs : List A) (i : ℕ) (d : A) → i < length xs → (Fact (get_or xs i d) → ⊥) → (e : A) → Fact (get_or xs i e) → ⊥
none_here Fact xs i d lt off e is = off (subst Fact (get_or_default xs i e d lt) is)
