-- Where code does wrong, from front to back: what is said by sets of places is said again of the code behind its
-- first instruction, begun at another depth.
use Rattle.std.proofs.Common.{◌≡◌, ◌≢◌, ◌⊎◌, ℕ, ◌<◌, ◌≤◌, List, [], ◌∷◌, ◌++◌, refl, sym, ◌∙◌, ap, subst, inl, inr, arith}
use Rattle.cil_lone.specs.declared.row.Row.{Row}
use Rattle.cil_lone.specs.declared.row.Row.TheVariants.{Load, Binary, Return, Beyond}
use Rattle.cil_instruction.specs.declared.instruction.Simple.{Simple}
use Rattle.cil_lone.specs.Row.{row_of}
use Rattle.cil_lone.specs.Cut.{Placed}
use Rattle.cil_lone.specs.Lone.{depth_after, depth_of, IsOperator, IsReturn, Stands, Underflows, ReturnsBadly, HasNoReturn, IsBalanced}

-- `Underflows`, begun at a depth
pub record UnderflowsFrom (depth : ℕ) (code : List Placed) (place : ℕ) : Type 0 where
  pub before : List Placed
  pub after : List Placed
  pub i : Simple
  pub stands : Stands code before place i after
  pub operator : IsOperator (row_of i.op)
  pub shallow : depth_of depth before < 2

-- `ReturnsBadly`, begun at a depth
pub record ReturnsBadlyFrom (depth : ℕ) (code : List Placed) (place : ℕ) : Type 0 where
  pub before : List Placed
  pub after : List Placed
  pub i : Simple
  pub stands : Stands code before place i after
  pub returns : IsReturn (row_of i.op)
  pub badly : (depth_of depth before ≢ 1) ⊎ (after ≢ [])

-- the first instruction is the one, or the wrong is behind it
module _ (depth : ℕ) (e : Placed) (code : List Placed) (place : ℕ) where
  abbrev pub FirstUnderflows : Type 0
  FirstUnderflows = IsOperator (row_of e.1.op) × (e.0 ≡ place) × (depth < 2)

  abbrev pub FirstReturnsBadly : Type 0
  FirstReturnsBadly = IsReturn (row_of e.1.op) × (e.0 ≡ place) × ((depth ≢ 1) ⊎ (code ≢ []))

  peel_underflow_at :
      (before after : List Placed) (i : Simple) → Stands (e ∷ code) before place i after → IsOperator (row_of i.op) → depth_of depth before < 2 → FirstUnderflows ⊎ UnderflowsFrom (depth_after depth (row_of e.1.op)) code place
  peel_underflow_at [] after i s o d =
      let head : e ≡ (place, i) = cc in
      inl (subst (λ (x : Placed). IsOperator (row_of x.1.op)) (sym head) o, ap (λ (x : Placed). x.0) head, d)
  peel_underflow_at (b ∷ before) after i s o d =
      let head : b ≡ e = cc in
      let tail : code ≡ before ++ (place, i) ∷ after = cc in
      inr (record {
        before = before;
        after = after;
        i = i;
        stands = tail;
        operator = o;
        shallow = subst (λ (x : Placed). depth_of (depth_after depth (row_of x.1.op)) before < 2) head d;
      })

  pub peel_underflow : UnderflowsFrom depth (e ∷ code) place → FirstUnderflows ⊎ UnderflowsFrom (depth_after depth (row_of e.1.op)) code place
  peel_underflow u = peel_underflow_at u.before u.after u.i u.stands u.operator u.shallow

  peel_return_at :
      (before after : List Placed) (i : Simple) → Stands (e ∷ code) before place i after → IsReturn (row_of i.op) → (depth_of depth before ≢ 1) ⊎ (after ≢ []) → FirstReturnsBadly ⊎ ReturnsBadlyFrom (depth_after depth (row_of e.1.op)) code place
  peel_return_at [] after i s o d =
      let head : e ≡ (place, i) = cc in
      let tail : after ≡ code = cc in
      inl (subst (λ (x : Placed). IsReturn (row_of x.1.op)) (sym head) o, ap (λ (x : Placed). x.0) head, subst (λ (xs : List Placed). (depth ≢ 1) ⊎ (xs ≢ [])) tail d)
  peel_return_at (b ∷ before) after i s o d =
      let head : b ≡ e = cc in
      let tail : code ≡ before ++ (place, i) ∷ after = cc in
      inr (record {
        before = before;
        after = after;
        i = i;
        stands = tail;
        returns = o;
        badly = subst (λ (x : Placed). (depth_of (depth_after depth (row_of x.1.op)) before ≢ 1) ⊎ (after ≢ [])) head d;
      })

  pub peel_return : ReturnsBadlyFrom depth (e ∷ code) place → FirstReturnsBadly ⊎ ReturnsBadlyFrom (depth_after depth (row_of e.1.op)) code place
  peel_return u = peel_return_at u.before u.after u.i u.stands u.returns u.badly

  pub push_underflow : UnderflowsFrom (depth_after depth (row_of e.1.op)) code place → UnderflowsFrom depth (e ∷ code) place
  push_underflow u =
      record {
        before = e ∷ u.before;
        after = u.after;
        i = u.i;
        stands = ap (λ xs. e ∷ xs) u.stands;
        operator = u.operator;
        shallow = u.shallow;
      }

  pub push_return : ReturnsBadlyFrom (depth_after depth (row_of e.1.op)) code place → ReturnsBadlyFrom depth (e ∷ code) place
  push_return u =
      record {
        before = e ∷ u.before;
        after = u.after;
        i = u.i;
        stands = ap (λ xs. e ∷ xs) u.stands;
        returns = u.returns;
        badly = u.badly;
      }

  first_stands : e.0 ≡ place → Stands (e ∷ code) [] place e.1 code
  first_stands p =
      let move : ℕ → List Placed = λ x. (x, e.1) ∷ code in
      ap move p

  pub first_underflows : IsOperator (row_of e.1.op) → e.0 ≡ place → depth < 2 → UnderflowsFrom depth (e ∷ code) place
  first_underflows o p d =
      record {
        before = [];
        after = code;
        i = e.1;
        stands = first_stands p;
        operator = o;
        shallow = d;
      }

  pub first_returns_badly : IsReturn (row_of e.1.op) → e.0 ≡ place → (depth ≢ 1) ⊎ (code ≢ []) → ReturnsBadlyFrom depth (e ∷ code) place
  first_returns_badly o p d =
      record {
        before = [];
        after = code;
        i = e.1;
        stands = first_stands p;
        returns = o;
        badly = d;
      }

pub HasNoReturn-nil : HasNoReturn []
HasNoReturn-nil [] after place i s r = cc
HasNoReturn-nil (b ∷ before) after place i s r = cc

pub HasNoReturn-tail : (e : Placed) (code : List Placed) → HasNoReturn (e ∷ code) → HasNoReturn code
HasNoReturn-tail e code n before after place i s r = n (e ∷ before) after place i (ap (λ xs. e ∷ xs) s) r

pub HasNoReturn-cons : (e : Placed) (code : List Placed) → (IsReturn (row_of e.1.op) → ⊥) → HasNoReturn code → HasNoReturn (e ∷ code)
HasNoReturn-cons e code h n [] after place i s r =
    let head : e ≡ (place, i) = cc in
    h (subst (λ (x : Placed). IsReturn (row_of x.1.op)) (sym head) r)
HasNoReturn-cons e code h n (b ∷ before) after place i s r =
    let tail : code ≡ before ++ (place, i) ∷ after = cc in
    n before after place i tail r

-- An instruction on a stack of `depth` slots does its part as far as the stack goes, where `code` stands behind it and
-- `goes_on` says that `code` does too. One that a lone body hasn't changes nothing.
abbrev pub GoesOn : Row → ℕ → List Placed → Type 0 → Type 0
GoesOn (Load source) depth code goes_on = goes_on
GoesOn (Binary two) depth code goes_on = (2 ≤ depth) × goes_on
GoesOn Return depth code goes_on = (depth ≡ 1) × (code ≡ [])
GoesOn Beyond depth code goes_on = goes_on

-- `Walks`, where the code may have instructions that a lone body hasn't
abbrev pub Runs : ℕ → List Placed → Type 0
Runs depth [] = ⊥
Runs depth (e ∷ code) = GoesOn (row_of e.1.op) depth code (Runs (depth_after depth (row_of e.1.op)) code)

-- what a step of a walk says, without its row
module _ (depth : ℕ) (code : List Placed) (W : Type 0) where
  GoesOn-says :
      (r : Row) → GoesOn r depth code W → (IsOperator r → 2 ≤ depth) × (IsReturn r → (depth ≡ 1) × (code ≡ [])) × ((IsReturn r → ⊥) → W)
  GoesOn-says (Load s) w = (λ o. absurd o, λ o. absurd o, λ _. w)
  GoesOn-says (Binary t) w = (λ _. w.0, λ o. absurd o, λ _. w.1)
  GoesOn-says Return w = (λ o. absurd o, λ _. w, λ n. absurd (n tt))
  GoesOn-says Beyond w = (λ o. absurd o, λ o. absurd o, λ _. w)

  GoesOn-from :
      (r : Row) → (IsOperator r → 2 ≤ depth) → (IsReturn r → (depth ≡ 1) × (code ≡ [])) → ((IsReturn r → ⊥) → W) → GoesOn r depth code W
  GoesOn-from (Load s) o r w = w (λ x. x)
  GoesOn-from (Binary t) o r w = (o tt, w (λ x. x))
  GoesOn-from Return o r w = r tt
  GoesOn-from Beyond o r w = w (λ x. x)

pub is_return : (r : Row) → IsReturn r ⊎ (IsReturn r → ⊥)
is_return (Load s) = inr (λ x. x)
is_return (Binary t) = inr (λ x. x)
is_return Return = inl tt
is_return Beyond = inr (λ x. x)

pub nothing_stands : (before after : List Placed) (place : ℕ) (i : Simple) → [] ≡ before ++ (place, i) ∷ after → ⊥
nothing_stands [] after place i s = cc
nothing_stands (b ∷ before) after place i s = cc

-- code that runs does nothing wrong
pub Runs-no_underflow : (depth : ℕ) (code : List Placed) (place : ℕ) → Runs depth code → UnderflowsFrom depth code place → ⊥
Runs-no_underflow depth [] place w u = w
Runs-no_underflow depth (e ∷ code) place w u =
    let says = GoesOn-says depth code (Runs (depth_after depth (row_of e.1.op)) code) (row_of e.1.op) w in
    elim (peel_underflow depth e code place u) [
      | inl f ↦ let two : 2 ≤ depth = says.0 f.0 in
          let less : depth < 2 = f.2 in
          absurd (omega arith)
      | inr v ↦ elim (is_return (row_of e.1.op)) [
        | inl r ↦ nothing_stands v.before v.after place v.i (sym (says.1 r).1 ∙ v.stands)
        | inr n ↦ Runs-no_underflow (depth_after depth (row_of e.1.op)) code place (says.2 n) v
      ]
    ]

pub Runs-no_bad_return : (depth : ℕ) (code : List Placed) (place : ℕ) → Runs depth code → ReturnsBadlyFrom depth code place → ⊥
Runs-no_bad_return depth [] place w u = w
Runs-no_bad_return depth (e ∷ code) place w u =
    let says = GoesOn-says depth code (Runs (depth_after depth (row_of e.1.op)) code) (row_of e.1.op) w in
    elim (peel_return depth e code place u) [
      | inl f ↦ elim f.2 [ inl d ↦ d (says.1 f.0).0 | inr c ↦ c (says.1 f.0).1 ]
      | inr v ↦ elim (is_return (row_of e.1.op)) [
        | inl r ↦ nothing_stands v.before v.after place v.i (sym (says.1 r).1 ∙ v.stands)
        | inr n ↦ Runs-no_bad_return (depth_after depth (row_of e.1.op)) code place (says.2 n) v
      ]
    ]

pub Runs-returns : (depth : ℕ) (code : List Placed) → Runs depth code → HasNoReturn code → ⊥
Runs-returns depth [] w n = w
Runs-returns depth (e ∷ code) w n =
    let says = GoesOn-says depth code (Runs (depth_after depth (row_of e.1.op)) code) (row_of e.1.op) w in
    elim (is_return (row_of e.1.op)) [
      | inl r ↦ n [] code e.0 e.1 refl r
      | inr m ↦ Runs-returns (depth_after depth (row_of e.1.op)) code (says.2 m) (HasNoReturn-tail e code n)
    ]

pub at_least_two : (depth : ℕ) → (depth < 2 → ⊥) → 2 ≤ depth
at_least_two depth h = grind arith

pub just_one : (depth : ℕ) → (depth ≢ 1 → ⊥) → depth ≡ 1
just_one depth h = grind arith

pub just_nil : (code : List Placed) → (code ≢ [] → ⊥) → code ≡ []
just_nil [] h = refl
just_nil (e ∷ code) h = absurd (h (λ x. cc))

-- code that does nothing wrong runs
pub Runs-from :
    (depth : ℕ) (code : List Placed) → ((place : ℕ) → UnderflowsFrom depth code place → ⊥) → ((place : ℕ) → ReturnsBadlyFrom depth code place → ⊥) → (HasNoReturn code → ⊥) → Runs depth code
Runs-from depth [] u r n = n HasNoReturn-nil
Runs-from depth (e ∷ code) u r n =
    GoesOn-from depth code (Runs (depth_after depth (row_of e.1.op)) code) (row_of e.1.op)
    (λ o. at_least_two depth (λ d. u e.0 (first_underflows depth e code e.0 o refl d)))
    (λ o. (just_one depth (λ d. r e.0 (first_returns_badly depth e code e.0 o refl (inl d))), just_nil code (λ d. r e.0 (first_returns_badly depth e code e.0 o refl (inr d)))))
    (λ m. Runs-from (depth_after depth (row_of e.1.op)) code (λ place v. u place (push_underflow depth e code place v)) (λ place v. r place (push_return depth e code place v)) (λ t. n (HasNoReturn-cons e code m t)))

-- from the empty stack, these are the definitions
pub underflows_from : (code : List Placed) (place : ℕ) → Underflows code place → UnderflowsFrom 0 code place
underflows_from code place u =
    record { before = u.before; after = u.after; i = u.i; stands = u.stands; operator = u.operator; shallow = u.shallow }

pub underflows_to : (code : List Placed) (place : ℕ) → UnderflowsFrom 0 code place → Underflows code place
underflows_to code place u =
    record { before = u.before; after = u.after; i = u.i; stands = u.stands; operator = u.operator; shallow = u.shallow }

pub returns_badly_from : (code : List Placed) (place : ℕ) → ReturnsBadly code place → ReturnsBadlyFrom 0 code place
returns_badly_from code place u =
    record { before = u.before; after = u.after; i = u.i; stands = u.stands; returns = u.returns; badly = u.badly }

pub returns_badly_to : (code : List Placed) (place : ℕ) → ReturnsBadlyFrom 0 code place → ReturnsBadly code place
returns_badly_to code place u =
    record { before = u.before; after = u.after; i = u.i; stands = u.stands; returns = u.returns; badly = u.badly }

pub Runs-from_balanced : (code : List Placed) (end : ℕ) → IsBalanced code end → Runs 0 code
Runs-from_balanced code end b =
    Runs-from 0 code (λ place u. (b place).0 (underflows_to code place u))
    (λ place u. (b place).1 (inl (returns_badly_to code place u)))
    (λ n. (b end).1 (inr (refl, n)))

pub balanced_from_Runs : (code : List Placed) (end : ℕ) → Runs 0 code → IsBalanced code end
balanced_from_Runs code end w place = (
  λ u. Runs-no_underflow 0 code place w (underflows_from code place u),
  λ r. elim r [
    | inl u ↦ Runs-no_bad_return 0 code place w (returns_badly_from code place u)
    | inr n ↦ Runs-returns 0 code w n.1
  ],
)
