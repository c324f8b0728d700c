-- Nodes that know the last one before them that ends behind their start.
use Rattle.std.proofs.Common.{◌≡◌, ℕ, ◌+◌, ◌<◌, ◌≤◌, Option, Some, None, List, [], ◌∷◌, ◌++◌, length, get_or, inl, inr, sym, refl, ap, ◌∙◌, subst, arith, length-append}
use Rattle.std.proofs.lemmas.Bool.{cases_lt, cases_order}
use Rattle.std.proofs.Math.ListN.{get_or-append}
use Rattle.std.proofs.lemmas.List.{get_or_default, get_or_push}
use Rattle.std.specs.List.{All}
use Rattle.std.specs.Option.{MatchOption, unwrap_or}
use Rattle.cil_regions.specs.declared.region.RegionKind.TheVariants.{Code}
use Rattle.cil_regions.specs.declared.region.Region.{Region}
use Rattle.cil_regions.specs.declared.region.Span.{Span}
use Rattle.cil_regions.specs.Laid.{AreLaid, IsLink, AreLinks, AreLinked, IsReaching}

-- what stands past the end of a list
abbrev pub no_span : Span
no_span = record { kind = Code; from = 0; to = 0; first = 0 }

abbrev pub no_node : Region
no_node = record { kind = Code; from = 0; to = 0; parent = 0 }

-- a node for a span
abbrev pub node_of : Span → ℕ → Region
node_of s parent = record { kind = s.kind; from = s.from; to = s.to; parent = parent }

pub starts_rise : (spans : List Span) → AreLaid spans → (i k : ℕ) (d : Span) → i < k → k < length spans → (get_or spans i d).from ≤ (get_or spans k d).from
starts_rise spans laid i k d lt within =
    elim (laid.ordered i k d lt within) [ inl before ↦ omega (arith, before) | inr same ↦ omega (arith, same.0) ]

module _ (spans : List Span) (nodes : List Region) (links : AreLinks spans nodes) (s : Span) where
  pub linked : AreLinked nodes
  linked = record {
    before = λ k d pos lt. (links.each k s d lt).before pos;
    last = λ i k d above below within.
        let link = links.each k s d within in
        let other = links.each i s d (omega arith) in
        let ends = link.last i s above below in
        omega (arith, link.from, other.to, ends);
  }

  -- none of them begins behind a later region
  pub begun : AreLaid spans → (k : ℕ) → length nodes ≡ k → k < length spans → All (λ node. node.from ≤ (get_or spans k s).from) nodes
  begun laid k many within i d lt =
      let link = links.each i s d lt in
      let rise = starts_rise spans laid i k s (omega arith) within in
      omega (arith, link.from, rise)

  module _ (laid : AreLaid spans) (k : ℕ) (many : length nodes ≡ k) (within : k < length spans) where
    none_reaches : 0 < k → All (λ node. node.to ≤ (get_or spans k s).from) nodes → ⊥
    none_reaches pos all =
        let node = node_of s 0 in
        let link = links.each 0 s node (omega arith) in
        let ends = all 0 node (omega arith) in
        let wide = laid.wide k s pos within in
        let inside = laid.within k s within in
        omega (arith, link.to, ends, wide, inside)

    -- the node of the next region
    pub link_of : (found : Option ℕ) → MatchOption found (All (λ node. node.to ≤ (get_or spans k s).from) nodes) (IsReaching nodes (get_or spans k s).from) → IsLink spans k (get_or spans k s) (node_of (get_or spans k s) (unwrap_or found 0))
    link_of None all = record {
      kind = refl;
      from = refl;
      to = refl;
      first = λ is. refl;
      before = λ pos. absurd (none_reaches pos all);
      reaches = λ d pos. absurd (none_reaches pos all);
      last = λ i d above below. absurd (none_reaches (omega arith) all);
    }
    link_of (Some at) found = record {
      kind = refl;
      from = refl;
      to = refl;
      first = λ is. absurd (omega (arith, found.within));
      before = λ pos. omega (arith, found.within);
      reaches = λ d pos.
          let node = node_of s 0 in
          let link = links.each at d node found.within in
          let ends = found.reaches node in
          omega (arith, link.to, ends);
      last = λ i d above below.
          let node = node_of s 0 in
          let link = links.each i d node (omega arith) in
          let ends = found.last i node above (omega arith) in
          omega (arith, link.to, ends);
    }

-- one node more
pub links_more : (spans : List Span) (nodes new : List Region) (k : ℕ) (s : Span) (node : Region) → AreLinks spans nodes → length nodes ≡ k → k < length spans → IsLink spans k (get_or spans k s) node → new ≡ nodes ++ node ∷ [] → AreLinks spans new
links_more spans nodes new k s node links many within link is =
    let grown : AreLinks spans (nodes ++ node ∷ []) = record {
      few = omega (arith, length-append nodes (node ∷ []));
      each = λ i r n lt. elim (cases_lt i k) [
        | inl below ↦
            subst (IsLink spans i (get_or spans i r)) (sym (get_or-append nodes (node ∷ []) n i (omega arith)))
            (links.each i r n (omega arith))
        | inr past ↦
            let here : k ≡ i = omega (arith, length-append nodes (node ∷ [])) in
            subst (λ j. IsLink spans j (get_or spans j r) (get_or (nodes ++ node ∷ []) j n)) here
            (subst (IsLink spans k (get_or spans k r)) (sym (get_or_push nodes node n k many))
            (subst (λ r. IsLink spans k r node) (get_or_default spans k s r within) link))
      ];
    } in
    subst (AreLinks spans) (sym is) grown

pub many_more : (nodes new : List Region) (k : ℕ) (node : Region) → length nodes ≡ k → new ≡ nodes ++ node ∷ [] → length new ≡ k + 1
many_more nodes new k node many is = omega (arith, ap length is, length-append nodes (node ∷ []))

-- the nodes behind the parent of one that ends by the place do so too, where those behind it do
pub climbs :
    (nodes : List Region) (place at : ℕ) (e : Region) → AreLinked nodes → All (λ node. node.from ≤ place) nodes → at < length nodes → (get_or nodes at e).to ≤ place
    → ((i : ℕ) (d : Region) → at < i → i < length nodes → (get_or nodes i d).to ≤ place) → (i : ℕ) (d : Region) → (get_or nodes at e).parent < i → i < length nodes → (get_or nodes i d).to ≤ place
climbs nodes place at e linked begun within ends above i d more lt =
    let same : get_or nodes at d ≡ get_or nodes at e = get_or_default nodes at d e within in
    elim (cases_order i at) [
      | inl is ↦
          let here : get_or nodes i d ≡ get_or nodes at e = ap (λ k. get_or nodes k d) is ∙ same in
          omega (arith, ap (λ n. n.to) here)
      | inr apart ↦ elim apart [
        | inl below ↦
            let parent = ap (λ n. n.parent) same in
            let last = linked.last i at d (omega (arith, parent)) below within in
            let start = begun at d within in
            omega (arith, last, start)
        | inr behind ↦ above i d behind lt
      ]
    ]

-- the step of the loop that makes the nodes
pub chain_step :
    (spans : List Span) (nodes seen new : List Region) (k parent : ℕ) (found : Option ℕ) → AreLaid spans → AreLinks spans nodes → length nodes ≡ k → k < length spans → seen ≡ nodes
    → MatchOption found (All (λ node. node.to ≤ (get_or spans k no_span).from) seen) (IsReaching seen (get_or spans k no_span).from) → parent ≡ unwrap_or found 0
    → new ≡ nodes ++ node_of (get_or spans k no_span) parent ∷ [] → AreLinks spans new
chain_step spans nodes seen new k parent found laid links many within same holds gives is =
    let here = subst (λ ns. MatchOption found (All (λ node. node.to ≤ (get_or spans k no_span).from) ns) (IsReaching ns (get_or spans k no_span).from)) same holds in
    let link = link_of spans nodes links no_span laid k many within found here in
    links_more spans nodes new k no_span (node_of (get_or spans k no_span) parent) links many within
    (subst (λ p. IsLink spans k (get_or spans k no_span) (node_of (get_or spans k no_span) p)) (sym gives) link)
    is
