-- A type is put into the ring.
use Rattle.std.proofs.Common.{◌≡◌, ◌≢◌, ◌⊎◌, ℕ, zero, suc, ◌+◌, ◌<◌, ◌≤◌, true, false, eqb, Some, List, [], ◌∷◌, length, inl, inr, sym, refl, ap, subst, ◌∙◌, arith}
use Rattle.std.proofs.lemmas.Bool.{cases_lt, eqb-true, eqb-false}
use Rattle.std.specs.List.{slice_get}
use Rattle.class_chains.specs.Ends.{IsAboveFirst}
use Rattle.class_rows.specs.declared.row.TypeRow.{TypeRow}
use Rattle.class_rows.specs.Types.{IsBase, IsAbove}
use Rattle.class_walk.specs.declared.walk.Step.{Step}
use Rattle.class_walk.specs.declared.walk.Step.TheVariants.{Enter, Leave}
use Rattle.class_walk.specs.Walk.{IsBelow, IsWalk}
use Rattle.class_walk.specs.Ring.{node_head, node_none, node_of, type_of, IsPlaceFor, Spells, Has, LacksNode, AreApart, IsRing, IsRingPut}

abbrev pub enter : ℕ → Step
enter t = Enter (record { 0 = t })

-- the steps with the entry and the leave of a type behind so many
abbrev pub put_at : ℕ → ℕ → List Step → List Step
put_at zero t steps = Enter (record { 0 = t }) ∷ Leave (record { 0 = t }) ∷ steps
put_at (suc k) t [] = []
put_at (suc k) t (s ∷ steps) = s ∷ put_at k t steps

-- the node behind so many steps
abbrev pub IsAt : ℕ → ℕ → List Step → ℕ → ℕ → Type 0
IsAt n from_ steps zero at = from_ ≡ at
IsAt n from_ [] (suc k) at = ⊥
IsAt n from_ (s ∷ steps) (suc k) at = IsAt n (node_of n s) steps k at

pub place_of : (n from_ t : ℕ) (steps : List Step) → Has steps (enter t) → (k : ℕ) × IsAt n from_ steps k t
place_of n from_ t [] h = absurd h
place_of n from_ t (s ∷ steps) (inl e) = (1, ap (node_of n) e)
place_of n from_ t (s ∷ steps) (inr h) = let at = place_of n (node_of n s) t steps h in (suc at.0, at.1)

-- the walk goes on through the new steps
pub walk_put : (types : List TypeRow) (n b t : ℕ) (path : List ℕ) (steps : List Step) (from_ k : ℕ) → b < n → IsBase types t b → IsWalk types path steps → IsAt n from_ steps k b → (from_ ≡ b → IsBelow types path t) → IsWalk types path (put_at k t steps)
walk_put types n b t path steps from_ zero lt base walk at below = (below at, (refl, walk))
walk_put types n b t path [] from_ (suc k) lt base walk at below = absurd at
walk_put types n b t path (Enter u ∷ steps) from_ (suc k) lt base walk at below =
    (walk.0, walk_put types n b t (u.0 ∷ path) steps u.0 k lt base walk.1 at (λ e. subst (λ (v : ℕ). IsBase types t v) (sym e) base))
walk_put types n b t [] (Leave u ∷ steps) from_ (suc k) lt base walk at below = absurd walk
walk_put types n b t (v ∷ path) (Leave u ∷ steps) from_ (suc k) lt base walk at below =
    (walk.0, walk_put types n b t path steps (n + u.0) k lt base walk.1 at (λ e. absurd (omega (arith, lt, e))))

-- what lacks a node goes on lacking it
lacks_put : (n v t k : ℕ) (steps : List Step) → (t ≡ v → ⊥) → (n + t ≡ v → ⊥) → LacksNode n v steps → LacksNode n v (put_at k t steps)
lacks_put n v t zero steps off off_ lacks = (off, (off_, lacks))
lacks_put n v t (suc k) [] off off_ lacks = tt
lacks_put n v t (suc k) (s ∷ steps) off off_ lacks = (lacks.0, lacks_put n v t k steps off off_ lacks.1)

pub apart_put : (n t k : ℕ) (steps : List Step) → t < n → LacksNode n t steps → LacksNode n (n + t) steps → AreApart n steps → AreApart n (put_at k t steps)
apart_put n t zero steps lt off off_ apart = (lt, ((λ e. absurd (omega (arith, lt, e))), off), (lt, off_, apart))
apart_put n t (suc k) [] lt off off_ apart = tt
apart_put n t (suc k) (s ∷ steps) lt off off_ apart =
    (apart.0, lacks_put n (node_of n s) t k steps (λ e. off.0 (sym e)) (λ e. off_.0 (sym e)) apart.1, apart_put n t k steps lt off.1 off_.1 apart.2)

pub has_put : (t k : ℕ) (steps : List Step) (r : Step) → Has steps r → Has (put_at k t steps) r
has_put t zero steps r h = inr (inr h)
has_put t (suc k) [] r h = absurd h
has_put t (suc k) (s ∷ steps) r (inl e) = inl e
has_put t (suc k) (s ∷ steps) r (inr h) = inr (has_put t k steps r h)

pub has_new : (n from_ t k at : ℕ) (steps : List Step) → IsAt n from_ steps k at → Has (put_at k t steps) (enter t)
has_new n from_ t zero at steps h = inl refl
has_new n from_ t (suc k) at [] h = absurd h
has_new n from_ t (suc k) at (s ∷ steps) h = inr (has_new n (node_of n s) t k at steps h)

pub few_put : (t k : ℕ) (steps : List Step) → length (put_at k t steps) ≤ 2 + length steps
few_put t zero steps = omega arith
few_put t (suc k) [] = omega arith
few_put t (suc k) (s ∷ steps) = omega (arith, few_put t k steps)

-- a node that has none next isn't in the ring
one_next : (next : List ℕ) (i a b : ℕ) → slice_get next i ≡ Some a → slice_get next i ≡ Some b → a ≡ b
one_next next i a b p q = let e : Some a ≡ Some b = sym p ∙ q in cc

node_small : (n : ℕ) (s : Step) → type_of s < n → node_of n s < node_head n
node_small n (Enter u) lt = omega (arith, lt)
node_small n (Leave u) lt = omega (arith, lt)

pub lacks_loose : (n : ℕ) (next : List ℕ) (t from_ : ℕ) (steps : List Step) → slice_get next t ≡ Some (node_none n) → AreApart n steps → Spells n next from_ steps → (from_ ≡ t → ⊥) × LacksNode n t steps
lacks_loose n next t from_ [] none apart spells =
    ((λ e. let o = one_next next t (node_none n) (node_head n) none (ap (slice_get next) (sym e) ∙ spells) in absurd (omega (arith, o))), tt)
lacks_loose n next t from_ (s ∷ steps) none apart spells =
    let small = node_small n s apart.0 in (
      (λ e. let o = one_next next t (node_none n) (node_of n s) none (ap (slice_get next) (sym e) ∙ spells.0) in absurd (omega (arith, o, small))),
      lacks_loose n next t (node_of n s) steps none apart.2 spells.1,
    )

-- where a type isn't entered, and isn't open, it isn't left
abbrev pub IsOff : List ℕ → ℕ → Type 0
IsOff [] t = Unit {0}
IsOff (u ∷ path) t = (u ≡ t → ⊥) × IsOff path t

pub lacks_leave : (types : List TypeRow) (n t : ℕ) (path : List ℕ) (steps : List Step) → t < n → AreApart n steps → IsOff path t → LacksNode n t steps → IsWalk types path steps → LacksNode n (n + t) steps
lacks_leave types n t path [] lt apart off lacks walk = tt
lacks_leave types n t path (Enter u ∷ steps) lt apart off lacks walk =
    let small : u.0 < n = apart.0 in
    ((λ e. absurd (omega (arith, e, small))), lacks_leave types n t (u.0 ∷ path) steps lt apart.2 (lacks.0, off) lacks.1 walk.1)
lacks_leave types n t [] (Leave u ∷ steps) lt apart off lacks walk = absurd walk
lacks_leave types n t (v ∷ path) (Leave u ∷ steps) lt apart off lacks walk =
    let same = walk.0 in
    ((λ e. off.0 (omega (arith, same, e))), lacks_leave types n t path steps lt apart.2 off.1 lacks.1 walk.1)

-- the steps behind a node are as before where none of their nodes is written
module _ (n : ℕ) (before after : List ℕ) (at t : ℕ) where
  abbrev pub IsKept : Type 0
  IsKept = (j : ℕ) → j ≢ at → j ≢ t → j ≢ n + t → slice_get after j ≡ slice_get before j

  spells_same : (f g : ℕ) (steps : List Step) → IsKept → slice_get after g ≡ slice_get before f → LacksNode n at steps → LacksNode n t steps → LacksNode n (n + t) steps → Spells n before f steps → Spells n after g steps
  spells_same f g [] kept e off_at off off_ spells = e ∙ spells
  spells_same f g (s ∷ steps) kept e off_at off off_ spells =
      (e ∙ spells.0, spells_same (node_of n s) (node_of n s) steps kept (kept (node_of n s) off_at.0 off.0 off_.0) off_at.1 off.1 off_.1 spells.1)

  -- a node that the steps lack isn't where they are at
  lacked : (from_ k v : ℕ) (steps : List Step) → IsAt n from_ steps k at → (from_ ≡ v → ⊥) → LacksNode n v steps → at ≡ v → ⊥
  lacked from_ zero v steps is off lacks e = off (is ∙ e)
  lacked from_ (suc k) v [] is off lacks e = absurd is
  lacked from_ (suc k) v (s ∷ steps) is off lacks e = lacked (node_of n s) k v steps is lacks.0 lacks.1 e

  pub spells_put : (from_ k : ℕ) (steps : List Step) → IsKept → slice_get after at ≡ Some t → slice_get after t ≡ Some (n + t) → slice_get after (n + t) ≡ slice_get before at → IsAt n from_ steps k at → (from_ ≡ t → ⊥) → (from_ ≡ n + t → ⊥) → LacksNode n from_ steps → AreApart n steps → LacksNode n t steps → LacksNode n (n + t) steps → Spells n before from_ steps → Spells n after from_ (put_at k t steps)
  spells_put from_ zero steps kept entry leave_ behind is off_t off_l own apart off off_ spells =
      (ap (slice_get after) is ∙ entry, (leave_, spells_same from_ (n + t) steps kept (behind ∙ ap (slice_get before) (sym is)) (subst (λ (v : ℕ). LacksNode n v steps) is own) off off_ spells))
  spells_put from_ (suc k) [] kept entry leave_ behind is off_t off_l own apart off off_ spells = absurd is
  spells_put from_ (suc k) (s ∷ steps) kept entry leave_ behind is off_t off_l own apart off off_ spells =
      let away : from_ ≢ at = λ e. lacked (node_of n s) k from_ steps is own.0 own.1 (sym e) in
      (kept from_ away off_t off_l ∙ spells.0, spells_put (node_of n s) k steps kept entry leave_ behind is off.0 off_.0 apart.1 apart.2 off.1 off_.1 spells.1)

has_lacks : (n t : ℕ) (steps : List Step) → Has steps (enter t) → LacksNode n t steps → ⊥
has_lacks n t [] h lacks = h
has_lacks n t (s ∷ steps) (inl e) lacks = lacks.0 (ap (node_of n) e)
has_lacks n t (s ∷ steps) (inr h) lacks = has_lacks n t steps h lacks.1

lacks_head : (n : ℕ) (steps : List Step) → AreApart n steps → LacksNode n (node_head n) steps
lacks_head n [] apart = tt
lacks_head n (s ∷ steps) apart = let small = node_small n s apart.0 in ((λ e. absurd (omega (arith, small, e))), lacks_head n steps apart.2)

module _ (types : List TypeRow) (before after order : List ℕ) (k at t : ℕ) (lt : t < length types) (stands : slice_get order k ≡ Some t) (ring : IsRing types before order k) (put : IsRingPut (length types) before after at t) where
  has_more : (steps : List Step) → ((r : Step) → Has ring.steps r → Has steps r) → Has steps (enter t) → (j u : ℕ) → j < k + 1 → slice_get order j ≡ Some u → Has steps (enter u)
  has_more steps old new j u less there = elim (cases_lt j k) [
    | inl below ↦ old (enter u) (ring.has j u below there)
    | inr ge ↦
        let same : j ≡ k = omega (arith, ge, less) in
        let e : t ≡ u = one_next order k t u stands (ap (slice_get order) (sym same) ∙ there) in
        subst (λ (v : ℕ). Has steps (enter v)) e new
  ]

  -- it stands in the ring already
  stays : Has ring.steps (enter t) → IsRing types after order (k + 1)
  stays has =
      let e = put.stays (λ none. has_lacks (length types) t ring.steps has (lacks_loose (length types) before t (node_head (length types)) ring.steps none ring.apart ring.spells).1) in
      subst (λ (next : List ℕ). IsRing types next order (k + 1)) (sym e)
      (record {
        long = ring.long;
        steps = ring.steps;
        spells = ring.spells;
        walk = ring.walk;
        apart = ring.apart;
        few = omega (arith, ring.few);
        has = has_more ring.steps (λ r h. h) has;
        loose = ring.loose;
      })

  module _ (none : slice_get before t ≡ Some (node_none (length types))) (i : ℕ) (is : IsAt (length types) (node_head (length types)) ring.steps i at) where
    off : LacksNode (length types) t ring.steps
    off = (lacks_loose (length types) before t (node_head (length types)) ring.steps none ring.apart ring.spells).1

    off_ : LacksNode (length types) (length types + t) ring.steps
    off_ = lacks_leave types (length types) t [] ring.steps lt ring.apart tt off ring.walk

    not_t : node_head (length types) ≡ t → ⊥
    not_t e = absurd (omega (arith, lt, e))

    not_l : node_head (length types) ≡ length types + t → ⊥
    not_l e = absurd (omega (arith, lt, e))

    at_t : at ≡ t → ⊥
    at_t = lacked (length types) before after at t (node_head (length types)) i t ring.steps is not_t off

    at_l : at ≡ length types + t → ⊥
    at_l = lacked (length types) before after at t (node_head (length types)) i (length types + t) ring.steps is not_l off_

    goes_in : IsWalk types [] (put_at i t ring.steps) → IsRing types after order (k + 1)
    goes_in walk = record {
      long = put.long ∙ ring.long;
      steps = put_at i t ring.steps;
      spells = spells_put (length types) before after at t (node_head (length types)) i ring.steps (put.rest none) (put.entry none) (put.leave none at_t) (put.behind none at_t at_l) is not_t not_l (lacks_head (length types) ring.steps ring.apart) ring.apart off off_ ring.spells;
      walk = walk;
      apart = apart_put (length types) t i ring.steps lt off off_ ring.apart;
      few = omega (arith, ring.few, few_put t i ring.steps);
      has = has_more (put_at i t ring.steps) (λ r h. has_put t i ring.steps r h) (has_new (length types) (node_head (length types)) t i at ring.steps is);
      loose = λ u less. elim (ring.loose u less) [
        | inl h ↦ inl (has_put t i ring.steps (enter u) h)
        | inr none_u ↦ elim (eqb u t) as (λ b. eqb u t ≡ b → Has (put_at i t ring.steps) (enter u) ⊎ (slice_get after u ≡ Some (node_none (length types)))) [
          | true ↦ λ e. inl (subst (λ (v : ℕ). Has (put_at i t ring.steps) (enter v)) (sym (eqb-true u t e)) (has_new (length types) (node_head (length types)) t i at ring.steps is))
          | false ↦ λ e.
              let free = lacks_loose (length types) before u (node_head (length types)) ring.steps none_u ring.apart ring.spells in
              let away : u ≢ at = λ same. lacked (length types) before after at t (node_head (length types)) i u ring.steps is free.0 free.1 (sym same) in
              inr (put.rest none u away (eqb-false u t e) (λ same. absurd (omega (arith, less, same))) ∙ none_u)
        ] refl
      ];
    }

  pub more : IsAboveFirst (IsAbove types) (length types) order → IsPlaceFor types t at → IsRing types after order (k + 1)
  more first place = elim (ring.loose t lt) [
    | inl has ↦ stays has
    | inr none ↦ elim place [
      | inl p ↦
          let up = first.above k t at stands (inl p.1) p.0 in
          let in_ = place_of (length types) (node_head (length types)) at ring.steps (ring.has up.0 at up.1 up.2) in
          goes_in none in_.0 in_.1 (walk_put types (length types) at t [] ring.steps (node_head (length types)) in_.0 p.0 p.1 ring.walk in_.1 (λ e. let below = p.0 in absurd (omega (arith, below, e))))
      | inr p ↦ goes_in none 0 (sym p.0) (p.1, (refl, ring.walk))
    ]
  ]
