-- The innermost region about a place that is no try.
use Rattle.std.proofs.Common.{◌≡◌, ◌≢◌, ℕ, ◌<◌, ◌≤◌, Bool, true, false, List, length, get_or, take, inl, inr, sym, refl, ap, ◌∙◌, subst, arith, get_or-take, length-take}
use Rattle.std.proofs.Common.{leb}
use Rattle.std.proofs.lemmas.Bool.{leb-true, leb-false, cases_lt, cases_order}
use Rattle.std.specs.Bool.{MatchBool}
use Rattle.std.specs.List.Sorted.{IsPartitionPoint}
use Rattle.std.proofs.lemmas.List.{get_or_default}
use Rattle.std.specs.List.{All}
use Rattle.cil_regions.specs.declared.region.RegionKind.{RegionKind}
use Rattle.cil_regions.specs.declared.region.RegionKind.TheVariants.{Code, Try, Catch, Finally}
use Rattle.cil_regions.specs.declared.region.Region.{Region}
use Rattle.cil_regions.specs.Region.{is_try, IsCatchKind}
use Rattle.cil_regions.specs.Laid.{AreLinked, AreNested, IsReaching, Handles, IsHandling, IsCaught, AreBegun}

-- the node of this number holds the place, and those behind it that do are tries
pub record IsHolding (nodes : List Region) (place at : ℕ) : Type 0 where
  pub within : at < length nodes
  pub starts : (d : Region) → (get_or nodes at d).from ≤ place
  pub ends : (d : Region) → place < (get_or nodes at d).to
  pub last : (i : ℕ) (d : Region) → at < i → i < length nodes → Handles (get_or nodes i d) place → ⊥

pub try_from : (k : RegionKind) → is_try k ≡ true → k ≡ Try
try_from Code h = cc
try_from Try h = refl
try_from (Catch class) h = cc
try_from Finally h = cc

pub no_try_from : (k : RegionKind) → is_try k ≡ false → k ≢ Try
no_try_from Code h e = cc
no_try_from Try h e = cc
no_try_from (Catch class) h e = cc
no_try_from Finally h e = cc

module _ (nodes : List Region) (place n : ℕ) (begun : AreBegun nodes place n) where
  in_front : (i : ℕ) (d : Region) → i < n → get_or (take n nodes) i d ≡ get_or nodes i d
  in_front i d lt = get_or-take n nodes i d lt

  short : length (take n nodes) ≡ n
  short = omega (arith, length-take n nodes, begun.few)

  pub front_linked : AreLinked nodes → AreLinked (take n nodes)
  front_linked linked = record {
    before = λ k d pos lt.
        let within : k < n = omega (arith, short) in
        omega (arith, linked.before k d pos (omega (arith, begun.few)), ap (λ (r : Region). r.parent) (in_front k d within));
    last = λ i k d above below lt.
        let within : k < n = omega (arith, short) in
        let here = in_front k d within in
        let last = linked.last i k d (omega (arith, ap (λ (r : Region). r.parent) here)) below (omega (arith, begun.few)) in
        omega (arith, last, ap (λ (r : Region). r.from) here, ap (λ (r : Region). r.to) (in_front i d (omega arith)));
  }

  pub front_begun : All (λ node. node.from ≤ place) (take n nodes)
  front_begun i d lt =
      let within : i < n = omega (arith, short) in
      omega (arith, begun.by i d within, ap (λ (r : Region). r.from) (in_front i d within))

  pub none_handles : All (λ node. node.to ≤ place) (take n nodes) → All (λ node. Handles node place → ⊥) nodes
  none_handles all i d lt handles =
      elim (cases_lt i n) [
        | inl early ↦
            let ends = all i d (omega (arith, short)) in
            omega (arith, ends, ap (λ (r : Region). r.to) (in_front i d early), handles.1)
        | inr late ↦ omega (arith, begun.behind i d late lt, handles.0)
      ]

  pub holding_from : (at : ℕ) → IsReaching (take n nodes) place at → IsHolding nodes place at
  holding_from at reach =
      let inside : at < n = omega (arith, reach.within, short) in
      record {
        within = omega (arith, inside, begun.few);
        starts = λ d. begun.by at d inside;
        ends = λ d. omega (arith, reach.reaches d, ap (λ (r : Region). r.to) (in_front at d inside));
        last = λ i d above lt handles.
            elim (cases_lt i n) [
              | inl early ↦
                  let ends = reach.last i d above (omega (arith, short)) in
                  omega (arith, ends, ap (λ (r : Region). r.to) (in_front i d early), handles.1)
              | inr late ↦ omega (arith, begun.behind i d late lt, handles.0)
            ];
      }

module _ (nodes : List Region) (place at : ℕ) (e : Region) (tree : AreNested nodes) (h : IsHolding nodes place at) where
  -- a try isn't the first node
  pub behind_first : is_try (get_or nodes at e).kind ≡ true → 0 < at
  behind_first t =
      elim (cases_order at 0) [
        | inl is ↦
            let code = tree.whole e (omega (arith, h.within)) in
            let try = try_from (get_or nodes at e).kind t in
            let clash : Code ≡ Try = sym code ∙ ap (λ n. (get_or nodes n e).kind) (sym is) ∙ try in
            absurd cc
        | inr apart ↦ elim apart [ inl less ↦ absurd (omega arith) | inr more ↦ more ]
      ]

  -- its parent holds the place
  pub holding_up : is_try (get_or nodes at e).kind ≡ true → IsHolding nodes place (get_or nodes at e).parent
  holding_up t =
      let pos = behind_first t in
      let before = tree.linked.before at e pos h.within in
      let inside : (get_or nodes at e).parent < length nodes = omega (arith, before, h.within) in
      record {
        within = inside;
        starts = λ d.
            let rise = tree.rising (get_or nodes at e).parent at d (omega (arith, before)) h.within in
            omega (arith, rise, h.starts d);
        ends = λ d.
            let held = tree.held at e pos h.within in
            omega (arith, held, h.ends e, ap (λ (r : Region). r.to) (get_or_default nodes (get_or nodes at e).parent e d inside));
        last = λ i d above lt handles.
            elim (cases_order i at) [
              | inl is ↦
                  let same : get_or nodes i d ≡ get_or nodes at e = get_or_default nodes i d e lt ∙ ap (λ n. get_or nodes n e) is in
                  handles.2 (ap (λ (r : Region). r.kind) same ∙ try_from (get_or nodes at e).kind t)
              | inr apart ↦ elim apart [
                | inl below ↦
                    let ends = tree.linked.last i at e above below h.within in
                    omega (arith, ends, h.starts e, handles.1, ap (λ (r : Region). r.to) (get_or_default nodes i d e lt))
                | inr behind ↦ h.last i d behind lt handles
              ]
            ];
      }

  pub handling_from : is_try (get_or nodes at e).kind ≡ false → IsHandling nodes place at
  handling_from f = record {
    within = h.within;
    handles = λ d. (h.starts d, h.ends d, no_try_from (get_or nodes at d).kind (ap (λ (r : Region). is_try r.kind) (get_or_default nodes at d e h.within) ∙ f));
    last = h.last;
  }

pub begun_from : (nodes : List Region) (place n : ℕ) → n ≤ length nodes → IsPartitionPoint (λ (r : Region). leb r.from place ≡ true) (λ r. leb r.from place ≡ false) nodes n → AreBegun nodes place n
begun_from nodes place n few point = record {
  few = few;
  by = λ i d lt. leb-true (get_or nodes i d).from place (point.0 i d (omega arith) lt);
  behind = λ i d past lt. leb-false (get_or nodes i d).from place (point.1 i d past lt);
}

pub caught_by : (nodes : List Region) (place at : ℕ) (d : Region) (r : Bool) → IsHandling nodes place at → MatchBool r (IsCatchKind (get_or nodes at d).kind) (IsCatchKind (get_or nodes at d).kind → ⊥) → MatchBool r (IsCaught nodes place) (IsCaught nodes place → ⊥)
caught_by nodes place at d true h is = (at, h, λ e. subst (λ (r : Region). IsCatchKind r.kind) (get_or_default nodes at d e h.within) is)
caught_by nodes place at d false h off = λ caught.
    let other = caught.1 in
    elim (cases_order caught.0 at) [
      | inl is ↦ off (subst (λ n. IsCatchKind (get_or nodes n d).kind) is (caught.2 d))
      | inr apart ↦ elim apart [ inl less ↦ other.last at d less h.within (h.handles d) | inr more ↦ h.last caught.0 d more other.within (other.handles d) ]
    ]

pub none_caught : (nodes : List Region) (place : ℕ) (d : Region) → All (λ node. Handles node place → ⊥) nodes → IsCaught nodes place → ⊥
none_caught nodes place d none caught = none caught.0 d caught.1.within (caught.1.handles d)
