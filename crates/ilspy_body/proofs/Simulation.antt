-- The flat form of a lone body returns what its code returns.
use Rattle.std.proofs.Common.{◌≡◌, ℕ, zero, suc, ◌+◌, ◌-◌, ◌^◌, ◌<◌, ◌≤◌, List, [], ◌∷◌, length, Some, ℤ, pos, false, refl, ap, ◌∙◌, subst, arith, slice_get, slice_set, get_or}
use Rattle.std.proofs.lemmas.Option.{slice_get-get_or}
use Rattle.std.proofs.lemmas.List.{length-set}
use Rattle.cil_lone.specs.declared.row.Row.{Row}
use Rattle.cil_lone.specs.declared.row.Row.TheVariants.{Load, Binary, Return, Beyond}
use Rattle.cil_lone.specs.declared.row.Source.{Source}
use Rattle.cil_lone.specs.declared.row.Source.TheVariants.{Argument, Number, Operand}
use Rattle.cil_lone.specs.declared.row.Two.{Two}
use Rattle.cil_lone.specs.declared.row.Two.TheVariants.{Add, Sub, Mul}
use Rattle.cil_instruction.specs.declared.instruction.Simple.{Simple}
use Rattle.cil_lone.specs.Row.{row_of, size_of}
use Rattle.cil_lone.specs.Cut.{Placed, IsConsecutive}
use Rattle.cil_lone.specs.Lone.{depth_after, DoesItsPart, Walks}
use Rattle.cil_meaning.specs.declared.machine.LoneState.{LoneState}
use Rattle.cil_meaning.specs.declared.machine.LoneStepped.TheVariants.{Next}
use Rattle.cil_meaning.specs.Step.{loaded_of, result_of, load_of, onward_of, act_by, step}
use Rattle.cs_meaning.specs.declared.state.State.{State}
use Rattle.cs_meaning.specs.declared.state.Value.TheVariants.{Int}
use Rattle.cs_body.specs.declared.tree.Expr.{Expr}
use Rattle.cs_body.specs.declared.tree.Expr.TheVariants as expr
use Rattle.cs_body.specs.declared.tree.Stmt.{Stmt}
use Rattle.cs_body.specs.declared.tree.Stmt.TheVariants as stmt
use Rattle.cs_meaning.specs.Ran.{assigned}
use Rattle.cs_meaning.specs.Laws.{Gives, RunsTo}
use Rattle.cs_meaning.proofs.Consequences.{literals_give, variables_give, sums_give, differences_give, products_give, declarations_run, returns_end}
use Rattle.ilspy_body.specs.Flat.{sign_of, loaded_form, pushed, declared_by, flat_from, declarations}
use Rattle.ilspy_body.proofs.FlatShape.{OperandsFit, AreBelow, IsFineSource, IsFineRow, fine_row, more_below}
use Rattle.ilspy_body.proofs.FlatBody.{declared_in-decl}
use Rattle.ilspy_body.proofs.CilRuns.{SameFrom, SameFrom-behind, step_here, consecutive_le, onward_below, int_of_fits, Ends, Ends-next, Ends-done}

-- a variable that was set has its value
get_set_here : {X : Type 0} (xs : List X) (i : ℕ) (a : X) → i < length xs → slice_get (slice_set xs i a) i ≡ Some a
get_set_here [] i a lt = absurd (omega arith)
get_set_here (x ∷ xs) zero a lt = refl
get_set_here (x ∷ xs) (suc i) a lt = get_set_here xs i a (omega arith)

-- the others keep theirs
get_set_before : {X : Type 0} (xs : List X) (i j : ℕ) (a : X) → j < i → slice_get (slice_set xs i a) j ≡ slice_get xs j
get_set_before [] i j a lt = refl
get_set_before (x ∷ xs) zero j a lt = absurd (omega arith)
get_set_before (x ∷ xs) (suc i) zero a lt = refl
get_set_before (x ∷ xs) (suc i) (suc j) a lt = get_set_before xs i j a (omega arith)

-- the variables of the slots hold what is on the stack
abbrev pub HoldsStack : State → List ℕ → List ℤ → Type 0
HoldsStack σ [] [] = Unit {0}
HoldsStack σ [] (v ∷ stack) = ⊥
HoldsStack σ (x ∷ slots) [] = ⊥
HoldsStack σ (x ∷ slots) (v ∷ stack) = (slice_get σ.vars x ≡ Some (Some (Int v))) × HoldsStack σ slots stack

-- The variables fit the machine: those of the slots hold its stack, the first four its arguments, and from `next` on there
-- are so many more.
pub record Fits (args : List ℤ) (next left : ℕ) (slots : List ℕ) (stack : List ℤ) (σ : State) : Type 0 where
  pub below : AreBelow next slots
  pub four : 4 ≤ next
  pub stack_held : HoldsStack σ slots stack
  pub args_held : (k : ℕ) (v : ℤ) → k < 4 → slice_get args k ≡ Some v → slice_get σ.vars k ≡ Some (Some (Int v))
  pub room : next + left ≤ length σ.vars

-- the slots' variables hold the stack after the next variable is set
stack_kept : (σ : State) (next : ℕ) (v : ℤ) (slots : List ℕ) (stack : List ℤ) → AreBelow next slots → HoldsStack σ slots stack →
    HoldsStack (assigned next (Int v) σ) slots stack
stack_kept σ next v [] [] below held = tt
stack_kept σ next v [] (w ∷ stack) below held = held
stack_kept σ next v (x ∷ slots) [] below held = held
stack_kept σ next v (x ∷ slots) (w ∷ stack) below held =
    (get_set_before σ.vars next x (Some (Int v)) below.0 ∙ held.0, stack_kept σ next v slots stack below.1 held.1)

-- a push sets the next variable
Fits-push : (args : List ℤ) (next left : ℕ) (slots : List ℕ) (stack : List ℤ) (σ : State) (v : ℤ) →
    Fits args next (1 + left) slots stack σ → Fits args (next + 1) left (next ∷ slots) (v ∷ stack) (assigned next (Int v) σ)
Fits-push args next left slots stack σ v fits =
    let room = fits.room in
    let four = fits.four in
    record {
      below = (omega arith, more_below next slots fits.below);
      four = omega arith;
      stack_held = (get_set_here σ.vars next (Some (Int v)) (omega arith), stack_kept σ next v slots stack fits.below fits.stack_held);
      args_held = λ k w lt h. get_set_before σ.vars next k (Some (Int v)) (omega arith) ∙ fits.args_held k w lt h;
      room = rw (length-set σ.vars next (Some (Int v))) (omega arith);
    }

-- the machine and the statements come to the same number
pub record Agree (whole : List Placed) (s : LoneState) (stmts : List Stmt) (σ : State) : Type 0 where
  pub number : ℤ
  pub cil : Ends whole s number
  pub fuel : ℕ
  pub cs : RunsTo stmts σ fuel number

-- a step of the machine, and the declaration that stands for it
Agree-push : (whole : List Placed) (s t : LoneState) (next : ℕ) (form : Expr) (stmts : List Stmt) (σ : State) (v : ℤ) →
    step whole s ≡ Next t → Gives form σ v → next < length σ.vars → Agree whole t stmts (assigned next (Int v) σ) →
    Agree whole s (stmt.Decl next form ∷ stmts) σ
Agree-push whole s t next form stmts σ v h gives room agree = record {
  number = agree.number;
  cil = Ends-next whole s t agree.number h agree.cil;
  fuel = suc agree.fuel;
  cs = declarations_run next form stmts σ agree.fuel v agree.number gives room agree.cs;
}

-- both load the same number
load_agrees : (source : Source) (arg : ℤ) (args : List ℤ) (next left : ℕ) (slots : List ℕ) (stack : List ℤ) (σ : State) →
    length args ≡ 4 → IsFineSource source arg → Fits args next left slots stack σ →
    (v : ℤ) × (loaded_of source arg args ≡ Some v) × Gives (loaded_form source arg) σ v
load_agrees (Argument k) arg args next left slots stack σ four fine fits =
    let found = slice_get-get_or args k (pos 0) (omega arith) in
    (get_or args k (pos 0), found, variables_give k σ (get_or args k (pos 0)) (fits.args_held k (get_or args k (pos 0)) fine found))
load_agrees (Number n) arg args next left slots stack σ four fine fits = (n, refl, literals_give n σ)
load_agrees Operand arg args next left slots stack σ four fine fits = (arg, int_of_fits arg fine, literals_give arg σ)

-- both operators give the same number
binary_agrees : (two : Two) (x y : ℕ) (σ : State) (v w : ℤ) → Gives (expr.Var x) σ v → Gives (expr.Var y) σ w →
    Gives (expr.Binary (sign_of two) false (expr.Var x) (expr.Var y)) σ (result_of two v w)
binary_agrees Add x y σ v w l r = sums_give (expr.Var x) (expr.Var y) σ v w l r
binary_agrees Sub x y σ v w l r = differences_give (expr.Var x) (expr.Var y) σ v w l r
binary_agrees Mul x y σ v w l r = products_give (expr.Var x) (expr.Var y) σ v w l r

module _ (whole : List Placed) (end : ℕ) (args : List ℤ) (fits_end : end < 2 ^ 32) (four_args : length args ≡ 4) where
  -- the rest of the code agrees with its statements, wherever the variables fit the machine
  abbrev RestAgrees : ℕ → List Placed → Type 0
  RestAgrees depth code =
      (at next : ℕ) (slots : List ℕ) (stack : List ℤ) (σ : State) → SameFrom at whole code → IsConsecutive at code end → length slots ≡ depth →
      Fits args next (declarations (flat_from next slots code)) slots stack σ →
      Agree whole (record { at = at; stack = stack; args = args }) (flat_from next slots code) σ

  -- an instruction that pushes agrees with its declaration, where the rest agrees
  push_agrees : (i : Simple) (d : ℕ) (code : List Placed) (at next : ℕ) (slots : List ℕ) (stack old : List ℤ) (σ : State) (form : Expr) (v : ℤ) →
      RestAgrees d code →
      step whole (record { at = at; stack = old; args = args }) ≡ onward_of i (record { at = at; stack = old; args = args }) (v ∷ stack) →
      Gives form σ v →
      SameFrom (at + size_of i.op) whole code → IsConsecutive (at + size_of i.op) code end → length (next ∷ slots) ≡ d →
      Fits args next (declarations (stmt.Decl next form ∷ flat_from (next + 1) (next ∷ slots) code)) slots stack σ →
      Agree whole (record { at = at; stack = old; args = args }) (stmt.Decl next form ∷ flat_from (next + 1) (next ∷ slots) code) σ
  push_agrees i d code at next slots stack old σ form v rest h gives same cons len fits =
      let stmts = flat_from (next + 1) (next ∷ slots) code in
      let left = ap (λ k. k + declarations stmts) (declared_in-decl next form) in
      let fits' = subst (λ n. Fits args next n slots stack σ) left fits in
      let room = fits'.room in
      let here : next < length σ.vars = omega arith in
      let last = consecutive_le (at + size_of i.op) code end cons in
      let onward = onward_below i (record { at = at; stack = old; args = args }) (v ∷ stack) (omega arith) in
      Agree-push whole (record { at = at; stack = old; args = args })
      (record { at = at + size_of i.op; stack = v ∷ stack; args = args }) next form stmts σ v (h ∙ onward) gives here
      (rest (at + size_of i.op) (next + 1) (next ∷ slots) (v ∷ stack) (assigned next (Int v) σ) same cons len
      (Fits-push args next (declarations stmts) slots stack σ v fits'))

  -- an instruction agrees with its statement, where the rest agrees
  row_agrees : (r : Row) (i : Simple) (depth : ℕ) (code : List Placed) → IsFineRow r i.arg →
      ((d : ℕ) → Walks d code → RestAgrees d code) → DoesItsPart r depth code (Walks (depth_after depth r) code) →
      (at next : ℕ) (slots : List ℕ) (stack : List ℤ) (σ : State) →
      step whole (record { at = at; stack = stack; args = args }) ≡ act_by r i (record { at = at; stack = stack; args = args }) →
      SameFrom (at + size_of i.op) whole code → IsConsecutive (at + size_of i.op) code end → length slots ≡ depth →
      Fits args next (declarations (declared_by (pushed r i.arg slots) next slots (λ above. flat_from (next + 1) above code))) slots stack σ →
      Agree whole (record { at = at; stack = stack; args = args })
      (declared_by (pushed r i.arg slots) next slots (λ above. flat_from (next + 1) above code)) σ
  row_agrees (Load source) i depth code fine rest walks at next slots stack σ h same cons len fits =
      let loaded = load_agrees source i.arg args next _ slots stack σ four_args fine fits in
      let h' = h ∙ ap (λ o. load_of o i (record { at = at; stack = stack; args = args })) loaded.1 in
      push_agrees i (depth + 1) code at next slots stack stack σ (loaded_form source i.arg) loaded.0
      (rest (depth + 1) walks) h' loaded.2 same cons (omega arith) fits
  row_agrees (Binary two) i depth code fine rest walks at next [] stack σ h same cons len fits = absurd (omega (arith, walks.0))
  row_agrees (Binary two) i depth code fine rest walks at next (y ∷ []) stack σ h same cons len fits = absurd (omega (arith, walks.0))
  row_agrees (Binary two) i depth code fine rest walks at next (y ∷ x ∷ slots) [] σ h same cons len fits = absurd fits.stack_held
  row_agrees (Binary two) i depth code fine rest walks at next (y ∷ x ∷ slots) (w ∷ []) σ h same cons len fits = absurd fits.stack_held.1
  row_agrees (Binary two) i depth code fine rest walks at next (y ∷ x ∷ slots) (w ∷ v ∷ stack) σ h same cons len fits =
      let held = fits.stack_held in
      let gives = binary_agrees two x y σ v w (variables_give x σ v held.1.0) (variables_give y σ w held.0) in
      push_agrees i (depth - 1) code at next slots stack (w ∷ v ∷ stack) σ
      (expr.Binary (sign_of two) false (expr.Var x) (expr.Var y)) (result_of two v w) (rest (depth - 1) walks.1) h gives same cons (omega arith)
      (record { below = fits.below.1.1; four = fits.four; stack_held = held.1.1; args_held = fits.args_held; room = fits.room })
  row_agrees Return i depth code fine rest walks at next [] stack σ h same cons len fits = absurd (omega (arith, walks.0))
  row_agrees Return i depth code fine rest walks at next (x ∷ y ∷ slots) stack σ h same cons len fits = absurd (omega (arith, walks.0))
  row_agrees Return i depth code fine rest walks at next (x ∷ []) [] σ h same cons len fits = absurd fits.stack_held
  row_agrees Return i depth code fine rest walks at next (x ∷ []) (v ∷ w ∷ stack) σ h same cons len fits = absurd fits.stack_held.1
  row_agrees Return i depth code fine rest walks at next (x ∷ []) (v ∷ []) σ h same cons len fits =
      record { number = v; cil = Ends-done whole _ v h; fuel = 1; cs = returns_end (expr.Var x) [] σ 0 v (variables_give x σ v fits.stack_held.0) }
  row_agrees Beyond i depth code fine rest walks at next slots stack σ h same cons len fits = absurd walks

  -- code agrees with its statements
  pub code_agrees : (code : List Placed) (depth : ℕ) → OperandsFit code → Walks depth code → RestAgrees depth code
  code_agrees [] depth operands walks at next slots stack σ same cons len fits = absurd walks
  code_agrees (e ∷ code) depth operands walks at next slots stack σ same cons len fits =
      row_agrees (row_of e.1.op) e.1 depth code (fine_row e.1.op e.1.arg operands.0)
      (λ d w. code_agrees code d operands.1 w) walks at next slots stack σ
      (step_here whole e code (record { at = at; stack = stack; args = args }) cons.0 same)
      (SameFrom-behind at whole e code cons.0 same) cons.1 len fits
