-- Whether a place stands in a catch, by the table of the regions that do.
use Rattle.std.proofs.Common.{◌≡◌, ◌≢◌, ℕ, zero, suc, ◌+◌, ◌<◌, ◌≤◌, Bool, true, false, Option, Some, None, List, [], ◌∷◌, ◌++◌, length, get_or, ◌⊎◌, inl, inr, sym, ap, ◌∙◌, subst, arith, length-append}
use Rattle.std.proofs.lemmas.Bool.{cases_Bool, cases_lt, cases_order}
use Rattle.std.proofs.lemmas.List.{get_or_default, get_or_push}
use Rattle.std.proofs.Math.ListN.{get_or-append}
use Rattle.std.specs.Bool.{MatchBool}
use Rattle.dc_base.specs.declared.names.Token.{Token}
use Rattle.cil_regions.specs.declared.region.RegionKind.{RegionKind}
use Rattle.cil_regions.specs.declared.region.RegionKind.TheVariants.{Code, Try, Catch, Finally}
use Rattle.cil_regions.specs.declared.region.Region.{Region}
use Rattle.cil_regions.specs.declared.rethrow.Standing.{Standing}
use Rattle.cil_regions.specs.Region.{is_try, IsCatchKind}
use Rattle.cil_regions.specs.Laid.{AreNested, IsCaught}
use Rattle.cil_regions.specs.Caught.{AreCatching, IsInnermost}
use Rattle.cil_regions.proofs.Chain.{no_node}
use Rattle.cil_regions.proofs.Handling.{IsHolding, try_from, no_try_from, holding_from, holding_up, handling_from, behind_first, caught_by, none_caught}

module _ (nodes : List Region) (place : ℕ) (catching : List Bool) (tree : AreNested nodes) (table : AreCatching nodes (length nodes) catching) where
  -- a node that holds the place, behind which only tries do, tells it
  told_below : (n at : ℕ) → at < n → IsHolding nodes place at → MatchBool (get_or catching at false) (IsCaught nodes place) (IsCaught nodes place → ⊥)
  told_below zero at lt h = absurd (omega arith)
  told_below (suc n) at lt h =
      let node = get_or nodes at no_node in
      elim (cases_Bool (is_try node.kind)) [
        | inl t ↦
            let pos = behind_first nodes place at no_node tree h t in
            let before = tree.linked.before at no_node pos h.within in
            let up = told_below n node.parent (omega (arith, before)) (holding_up nodes place at no_node tree h t) in
            subst (λ (b : Bool). MatchBool b (IsCaught nodes place) (IsCaught nodes place → ⊥)) (sym (table.tries at no_node h.within (try_from node.kind t))) up
        | inr f ↦
            caught_by nodes place at no_node (get_or catching at false) (handling_from nodes place at no_node tree h f)
            (table.others at no_node h.within (no_try_from node.kind f))
      ]

  pub told : (at : ℕ) → IsHolding nodes place at → MatchBool (get_or catching at false) (IsCaught nodes place) (IsCaught nodes place → ⊥)
  told at h = told_below (at + 1) at (omega arith) h

-- whether the place is caught, by the innermost node about it
pub caught_here :
    (nodes : List Region) (place : ℕ) (catching : List Bool) (here : Option Standing) (s : Standing) → AreNested nodes → AreCatching nodes (length nodes) catching → IsInnermost nodes place here → here ≡ Some s
    → MatchBool (get_or catching s.at false) (IsCaught nodes place) (IsCaught nodes place → ⊥)
caught_here nodes place catching here s tree table innermost is =
    let standing = subst (IsInnermost nodes place) is innermost in
    let holding = holding_from nodes s.place s.begun standing.0.begun s.at standing.0.reaching in
    told nodes place catching tree table s.at (subst (λ (p : ℕ). IsHolding nodes p s.at) standing.1 holding)

pub not_caught : (nodes : List Region) (place : ℕ) (here : Option Standing) → IsInnermost nodes place here → here ≡ None → IsCaught nodes place → ⊥
not_caught nodes place here innermost is = none_caught nodes place no_node (subst (IsInnermost nodes place) is innermost)

-- a try isn't the first node
pub try_behind : (nodes : List Region) → AreNested nodes → (i : ℕ) (d : Region) → 0 < length nodes → (get_or nodes i d).kind ≡ Try → 0 < i
try_behind nodes tree i d some t =
    elim (cases_order i 0) [
      | inl is ↦
          let clash : Code ≡ Try = sym (tree.whole d some) ∙ ap (λ n. (get_or nodes n d).kind) (sym is) ∙ t in
          absurd cc
      | inr apart ↦ elim apart [ inl less ↦ absurd (omega arith) | inr more ↦ more ]
    ]

-- whether a region that is no try is a catch
pub catch_told : (b : Bool) (kind : RegionKind) (class : Token) → b ≡ true → kind ≡ Catch class → MatchBool b (IsCatchKind kind) (IsCatchKind kind → ⊥)
catch_told b kind class told is =
    subst (λ (v : Bool). MatchBool v (IsCatchKind kind) (IsCatchKind kind → ⊥)) (sym told) (subst IsCatchKind (sym is) tt)

pub no_catch_told : (b : Bool) (kind : RegionKind) → b ≡ false → (kind ≡ Code) ⊎ (kind ≡ Finally) → MatchBool b (IsCatchKind kind) (IsCatchKind kind → ⊥)
no_catch_told b kind told is =
    subst (λ (v : Bool). MatchBool v (IsCatchKind kind) (IsCatchKind kind → ⊥)) (sym told)
    (λ catch. elim is [ inl code ↦ subst IsCatchKind code catch | inr finally' ↦ subst IsCatchKind finally' catch ])

-- one node more
pub catching_more :
    (nodes : List Region) (catching new : List Bool) (k : ℕ) (b : Bool) → AreNested nodes → k < length nodes → AreCatching nodes k catching → new ≡ catching ++ b ∷ []
    → ((get_or nodes k no_node).kind ≡ Try → b ≡ get_or catching (get_or nodes k no_node).parent false)
    → ((get_or nodes k no_node).kind ≢ Try → MatchBool b (IsCatchKind (get_or nodes k no_node).kind) (IsCatchKind (get_or nodes k no_node).kind → ⊥))
    → AreCatching nodes (k + 1) new
catching_more nodes catching new k b tree within table is try other = subst (AreCatching nodes (k + 1)) (sym is) grown where
  old : (i : ℕ) → i < k → get_or (catching ++ b ∷ []) i false ≡ get_or catching i false
  old i lt = get_or-append catching (b ∷ []) false i (omega (arith, table.as_many))

  parent_old : (i : ℕ) (d : Region) → i ≤ k → (get_or nodes i d).kind ≡ Try → get_or (catching ++ b ∷ []) (get_or nodes i d).parent false ≡ get_or catching (get_or nodes i d).parent false
  parent_old i d le t =
      let before = tree.linked.before i d (try_behind nodes tree i d (omega (arith, within)) t) (omega (arith, le, within)) in
      old (get_or nodes i d).parent (omega (arith, before, le))

  here : (i : ℕ) (d : Region) → k ≡ i → get_or nodes i d ≡ get_or nodes k no_node
  here i d e = ap (λ n. get_or nodes n d) (sym e) ∙ get_or_default nodes k d no_node within

  last : (i : ℕ) → k ≡ i → get_or (catching ++ b ∷ []) i false ≡ b
  last i e = ap (λ n. get_or (catching ++ b ∷ []) n false) (sym e) ∙ get_or_push catching b false k table.as_many

  grown : AreCatching nodes (k + 1) (catching ++ b ∷ [])
  grown = record {
    as_many = omega (arith, table.as_many, length-append catching (b ∷ []));
    tries = λ i d lt t. elim (cases_lt i k) [
      | inl early ↦ old i early ∙ table.tries i d early t ∙ sym (parent_old i d (omega arith) t)
      | inr past ↦
          let e : k ≡ i = omega arith in
          last i e ∙ try (ap (λ (r : Region). r.kind) (sym (here i d e)) ∙ t)
          ∙ ap (λ (r : Region). get_or catching r.parent false) (sym (here i d e))
          ∙ sym (parent_old i d (omega arith) t)
    ];
    others = λ i d lt t. elim (cases_lt i k) [
      | inl early ↦
          subst (λ (c : Bool). MatchBool c (IsCatchKind (get_or nodes i d).kind) (IsCatchKind (get_or nodes i d).kind → ⊥)) (sym (old i early)) (table.others i d early t)
      | inr past ↦
          let e : k ≡ i = omega arith in
          let told_here = other (λ t'. t (ap (λ (r : Region). r.kind) (here i d e) ∙ t')) in
          subst (λ (c : Bool). MatchBool c (IsCatchKind (get_or nodes i d).kind) (IsCatchKind (get_or nodes i d).kind → ⊥)) (sym (last i e))
          (subst (λ (r : Region). MatchBool b (IsCatchKind r.kind) (IsCatchKind r.kind → ⊥)) (sym (here i d e)) told_here)
    ];
  }
