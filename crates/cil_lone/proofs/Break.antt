-- The first place where code does wrong, as a walk finds it.
use Rattle.std.proofs.Common.{◌≡◌, ◌≢◌, ◌⊎◌, ℕ, ◌+◌, ◌-◌, ◌<◌, ◌≤◌, cond, ltb, eqb, List, [], ◌∷◌, length, drop, get_or, Option, None, Some, refl, sym, ◌∙◌, ap, subst, inl, inr, arith}
use Rattle.std.proofs.lemmas.List.{at_drop_more, at_drop_all, drop_all, length-drop}
use Rattle.cil_lone.specs.declared.row.Two.{Two}
use Rattle.cil_lone.specs.declared.row.Row.{Row}
use Rattle.cil_lone.specs.declared.row.Row.TheVariants.{Load, Binary, Return, Beyond}
use Rattle.cil_instruction.specs.declared.instruction.Simple.{Simple}
use Rattle.cil_lone.specs.declared.standalone.LoneFault.{LoneFault}
use Rattle.cil_lone.specs.declared.standalone.LoneFault.TheVariants.{BadHeader, Truncated, NotYet, Underflow, BadReturn, Trailing}
use Rattle.cil_lone.specs.Row.{row_of, size_of}
use Rattle.cil_lone.specs.Cut.{Placed, IsConsecutive}
use Rattle.cil_lone.specs.Lone.{depth_after, IsOperator, IsReturn, Stands, HasNoReturn, IsFineBefore, IsBalanced, IsBreak}
use Rattle.cil_lone.proofs.Cut.{consecutive_le, consecutive_place}
use Rattle.cil_lone.proofs.Walk.{GoesOn, Runs, UnderflowsFrom, ReturnsBadlyFrom, peel_underflow, peel_return, push_underflow, push_return, first_underflows, first_returns_badly, HasNoReturn-nil, HasNoReturn-tail, HasNoReturn-cons, underflows_from, underflows_to, returns_badly_from, returns_badly_to, balanced_from_Runs}

-- what an instruction does wrong, or what is wrong later
abbrev pub break_at : Row → ℕ → ℕ → List Placed → Option LoneFault → Option LoneFault
break_at (Load source) depth place code later = later
break_at (Binary two) depth place code later = cond (ltb depth 2) (Some (Underflow place)) later
break_at Return depth place [] later = cond (eqb depth 1) None (Some (BadReturn place))
break_at Return depth place (e ∷ code) later = Some (BadReturn place)
break_at Beyond depth place code later = later

-- what code does wrong first
abbrev pub first_break : ℕ → List Placed → ℕ → Option LoneFault
first_break depth [] end = Some (BadReturn end)
first_break depth (e ∷ code) end =
    break_at (row_of e.1.op) depth e.0 code (first_break (depth_after depth (row_of e.1.op)) code end)

break_at-none :
    (r : Row) (depth place : ℕ) (code : List Placed) (later : Option LoneFault) → break_at r depth place code later ≡ None → GoesOn r depth code (later ≡ None)
break_at-none (Load s) depth place code later h = h
break_at-none (Binary t) depth place code later h = grind arith
break_at-none Return depth place [] later h = grind arith
break_at-none Return depth place (e ∷ code) later h = cc
break_at-none Beyond depth place code later h = h

GoesOn-map : (r : Row) (depth : ℕ) (code : List Placed) (V W : Type 0) → (V → W) → GoesOn r depth code V → GoesOn r depth code W
GoesOn-map (Load s) depth code V W f h = f h
GoesOn-map (Binary t) depth code V W f h = (h.0, f h.1)
GoesOn-map Return depth code V W f h = h
GoesOn-map Beyond depth code V W f h = f h

pub first_break-none : (depth : ℕ) (code : List Placed) (end : ℕ) → first_break depth code end ≡ None → Runs depth code
first_break-none depth [] end h = cc
first_break-none depth (e ∷ code) end h =
    let r = row_of e.1.op in
    let later = first_break (depth_after depth r) code end in
    GoesOn-map r depth code (later ≡ None) (Runs (depth_after depth r) code)
    (first_break-none (depth_after depth r) code end)
    (break_at-none r depth e.0 code later h)

-- the ways to a break: later, or here by an operator or a ret
abbrev BreaksLater : Row → ℕ → Option LoneFault → LoneFault → Type 0
BreaksLater r depth later f = (IsOperator r → 2 ≤ depth) × (IsReturn r → ⊥) × (later ≡ Some f)

abbrev UnderflowsHere : Row → ℕ → ℕ → LoneFault → Type 0
UnderflowsHere r depth place f = IsOperator r × (depth < 2) × (f ≡ Underflow place)

abbrev ReturnsHere : Row → ℕ → ℕ → List Placed → LoneFault → Type 0
ReturnsHere r depth place code f = IsReturn r × ((depth ≢ 1) ⊎ (code ≢ [])) × (f ≡ BadReturn place)

break_binary :
    (depth place : ℕ) (later : Option LoneFault) (f : LoneFault) → cond (ltb depth 2) (Some (Underflow place)) later ≡ Some f → ((2 ≤ depth) × (later ≡ Some f)) ⊎ ((depth < 2) × (f ≡ Underflow place))
break_binary depth place later f h = grind arith

break_return : (depth place : ℕ) (f : LoneFault) → cond (eqb depth 1) None (Some (BadReturn place)) ≡ Some f → (depth ≢ 1) × (f ≡ BadReturn place)
break_return depth place f h = grind arith

break_at-some :
    (r : Row) (depth place : ℕ) (code : List Placed) (later : Option LoneFault) (f : LoneFault) → break_at r depth place code later ≡ Some f → BreaksLater r depth later f ⊎ (UnderflowsHere r depth place f ⊎ ReturnsHere r depth place code f)
break_at-some (Load s) depth place code later f h = inl (λ o. absurd o, λ o. o, h)
break_at-some (Binary t) depth place code later f h =
    elim (break_binary depth place later f h) [
      | inl w ↦ inl (λ _. w.0, λ o. o, w.1)
      | inr w ↦ inr (inl (tt, w.0, w.1))
    ]
break_at-some Return depth place [] later f h =
    let w = break_return depth place f h in
    inr (inr (tt, inl w.0, w.1))
break_at-some Return depth place (e ∷ code) later f h = inr (inr (tt, inr (λ x. cc), cc))
break_at-some Beyond depth place code later f h = inl (λ o. absurd o, λ o. o, h)

-- `IsFineBefore`, begun at a depth
abbrev FineFrom : ℕ → List Placed → ℕ → ℕ → Type 0
FineFrom depth code end place =
    (p : ℕ) → p < place → (UnderflowsFrom depth code p → ⊥) × (ReturnsBadlyFrom depth code p → ⊥) × ((p ≡ end) → HasNoReturn code → ⊥)

-- `IsBreak`, begun at a depth
abbrev BreakFrom : ℕ → List Placed → ℕ → LoneFault → Type 0
BreakFrom depth code end (Underflow place) = FineFrom depth code end place × UnderflowsFrom depth code place
BreakFrom depth code end (BadReturn place) =
    FineFrom depth code end place × (ReturnsBadlyFrom depth code place ⊎ ((place ≡ end) × HasNoReturn code))
BreakFrom depth code end _ = ⊥

module _ (depth : ℕ) (e : Placed) (code : List Placed) (end : ℕ) (o : IsOperator (row_of e.1.op) → 2 ≤ depth) (n : IsReturn (row_of e.1.op) → ⊥) where
  FineFrom-push : (place : ℕ) → FineFrom (depth_after depth (row_of e.1.op)) code end place → FineFrom depth (e ∷ code) end place
  FineFrom-push place fine p less = (
    λ u. elim (peel_underflow depth e code p u) [
      | inl w ↦ let two : 2 ≤ depth = o w.0 in
          let below : depth < 2 = w.2 in
          absurd (omega arith)
      | inr v ↦ (fine p less).0 v
    ],
    λ u. elim (peel_return depth e code p u) [ inl w ↦ n w.0 | inr v ↦ (fine p less).1 v ],
    λ q m. (fine p less).2 q (HasNoReturn-tail e code m),
  )

  BreakFrom-push : (f : LoneFault) → BreakFrom (depth_after depth (row_of e.1.op)) code end f → BreakFrom depth (e ∷ code) end f
  BreakFrom-push (BadHeader place) b = b
  BreakFrom-push (Truncated place) b = b
  BreakFrom-push (NotYet byte place) b = b
  BreakFrom-push (Underflow place) b = (FineFrom-push place b.0, push_underflow depth e code place b.1)
  BreakFrom-push (BadReturn place) b = (
    FineFrom-push place b.0,
    elim b.1 [
      | inl u ↦ inl (push_return depth e code place u)
      | inr m ↦ inr (m.0, HasNoReturn-cons e code n m.1)
    ],
  )
  BreakFrom-push (Trailing place) b = b

-- nothing is wrong before the first place
module _ (depth : ℕ) (code : List Placed) (at end : ℕ) (rises : IsConsecutive at code end) where
  stands_from : (p : ℕ) (before after : List Placed) (i : Simple) → Stands code before p i after → at ≤ p
  stands_from p before after i s =
      (consecutive_place at before p i after end (subst (λ (xs : List Placed). IsConsecutive at xs end) s rises)).0

  FineFrom-first : FineFrom depth code end at
  FineFrom-first p less =
      (λ u. let le : at ≤ p = stands_from p u.before u.after u.i u.stands in absurd (omega arith), λ u. let le : at ≤ p = stands_from p u.before u.after u.i u.stands in absurd (omega arith), λ q m. let le : at ≤ end = consecutive_le at code end rises in absurd (omega arith))

pub first_break-some : (depth at : ℕ) (code : List Placed) (end : ℕ) (f : LoneFault) → IsConsecutive at code end → first_break depth code end ≡ Some f → BreakFrom depth code end f
first_break-some depth at [] end f c h =
    let is : BadReturn end ≡ f = cc in
    let fine = FineFrom-first depth [] at end c in
    subst (λ (g : LoneFault). BreakFrom depth [] end g) is
    (subst (λ (p : ℕ). FineFrom depth [] end p) (sym c) fine, inr (refl, HasNoReturn-nil))
first_break-some depth at (e ∷ code) end f c h =
    let r = row_of e.1.op in
    let later = first_break (depth_after depth r) code end in
    let fine = FineFrom-first depth (e ∷ code) at end c in
    let fine_here : FineFrom depth (e ∷ code) end e.0 = subst (λ (p : ℕ). FineFrom depth (e ∷ code) end p) (sym c.0) fine in
    elim (break_at-some r depth e.0 code later f h) [
      | inl w ↦ BreakFrom-push depth e code end w.0 w.1 f (first_break-some (depth_after depth r) (at + size_of e.1.op) code end f c.1 w.2)
      | inr v ↦ elim v [
        | inl w ↦ subst (λ (g : LoneFault). BreakFrom depth (e ∷ code) end g) (sym w.2) (fine_here, first_underflows depth e code e.0 w.0 refl w.1)
        | inr w ↦ subst (λ (g : LoneFault). BreakFrom depth (e ∷ code) end g) (sym w.2) (fine_here, inl (first_returns_badly depth e code e.0 w.0 refl w.1))
      ]
    ]

-- from the empty stack, these are the definitions
fine_to : (code : List Placed) (end place : ℕ) → FineFrom 0 code end place → IsFineBefore code end place
fine_to code end place fine p less = (
  λ u. (fine p less).0 (underflows_from code p u),
  λ r. elim r [
    | inl u ↦ (fine p less).1 (returns_badly_from code p u)
    | inr m ↦ (fine p less).2 m.0 m.1
  ],
)

break_to : (code : List Placed) (end : ℕ) (f : LoneFault) → BreakFrom 0 code end f → IsBreak code end f
break_to code end (BadHeader place) b = b
break_to code end (Truncated place) b = b
break_to code end (NotYet byte place) b = b
break_to code end (Underflow place) b = (fine_to code end place b.0, underflows_to code place b.1)
break_to code end (BadReturn place) b =
    (fine_to code end place b.0, elim b.1 [ inl u ↦ inl (returns_badly_to code place u) | inr m ↦ inr m ])
break_to code end (Trailing place) b = b

pub IsBreak-from_walk : (code : List Placed) (end : ℕ) (f : LoneFault) → IsConsecutive 1 code end → first_break 0 code end ≡ Some f → IsBreak code end f
IsBreak-from_walk code end f c h = break_to code end f (first_break-some 0 1 code end f c h)

pub IsBalanced-from_walk : (code : List Placed) (end : ℕ) → first_break 0 code end ≡ None → IsBalanced code end
IsBalanced-from_walk code end h = balanced_from_Runs code end (first_break-none 0 code end h)

-- what a walk does at the instruction that it has come to
break_binary_here : (depth place : ℕ) (later : Option LoneFault) → depth < 2 → cond (ltb depth 2) (Some (Underflow place)) later ≡ Some (Underflow place)
break_binary_here depth place later h = grind arith

return_here : (depth place : ℕ) → depth ≢ 1 → cond (eqb depth 1) None (Some (BadReturn place)) ≡ Some (BadReturn place)
return_here depth place h = grind arith

break_return_here : (depth place : ℕ) (code : List Placed) (later : Option LoneFault) → (depth ≢ 1) ⊎ (code ≢ []) → break_at Return depth place code later ≡ Some (BadReturn place)
break_return_here depth place [] later h = elim h [ inl d ↦ return_here depth place d | inr c ↦ absurd (c refl) ]
break_return_here depth place (e ∷ code) later h = refl

return_none : (depth place : ℕ) → depth ≡ 1 → cond (eqb depth 1) None (Some (BadReturn place)) ≡ None
return_none depth place h = grind arith

module _ (code : List Placed) (end depth i : ℕ) (d : Placed) (within : i < length code) (walked : first_break 0 code end ≡ first_break depth (drop i code) end) where
  walk_at : (r : Row) → r ≡ row_of (get_or code i d).1.op → first_break 0 code end ≡ break_at r depth (get_or code i d).0 (drop (i + 1) code) (first_break (depth_after depth r) (drop (i + 1) code) end)
  walk_at r is =
      let here : first_break depth (drop i code) end ≡ first_break depth (get_or code i d ∷ drop (i + 1) code) end =
      at_drop_more (λ (xs : List Placed). first_break depth xs end) code i d within in
      let by_row =
      ap (λ (q : Row). break_at q depth (get_or code i d).0 (drop (i + 1) code) (first_break (depth_after depth q) (drop (i + 1) code) end)) (sym is) in
      walked ∙ here ∙ by_row

  pub walk_underflow : (t : Two) → Binary t ≡ row_of (get_or code i d).1.op → depth < 2 → first_break 0 code end ≡ Some (Underflow (get_or code i d).0)
  walk_underflow t is less =
      walk_at (Binary t) is ∙ break_binary_here depth (get_or code i d).0 (first_break (depth - 1) (drop (i + 1) code) end) less

  pub walk_bad_return : Return ≡ row_of (get_or code i d).1.op → (depth ≢ 1) ⊎ (drop (i + 1) code ≢ []) → first_break 0 code end ≡ Some (BadReturn (get_or code i d).0)
  walk_bad_return is wrong =
      walk_at Return is ∙ break_return_here depth (get_or code i d).0 (drop (i + 1) code) (first_break (depth - 1) (drop (i + 1) code) end) wrong

  pub walk_return : Return ≡ row_of (get_or code i d).1.op → depth ≡ 1 → i + 1 ≡ length code → first_break 0 code end ≡ None
  walk_return is one last =
      let none : drop (i + 1) code ≡ [] = drop_all (i + 1) code (omega arith) in
      let at_end : break_at Return depth (get_or code i d).0 [] (first_break (depth - 1) [] end) ≡ None = return_none depth (get_or code i d).0 one in
      walk_at Return is
      ∙ ap (λ (xs : List Placed). break_at Return depth (get_or code i d).0 xs (first_break (depth - 1) xs end)) none
      ∙ at_end

  pub more_behind : i + 1 ≢ length code → drop (i + 1) code ≢ []
  more_behind h none =
      let n : length (drop (i + 1) code) ≡ 0 = ap length none in
      let m = length-drop (i + 1) code in
      h (omega arith)

pub walk_end : (code : List Placed) (end depth i : ℕ) → length code ≤ i → first_break 0 code end ≡ first_break depth (drop i code) end → first_break 0 code end ≡ Some (BadReturn end)
walk_end code end depth i past walked = walked ∙ at_drop_all (λ (xs : List Placed). first_break depth xs end) code i past
