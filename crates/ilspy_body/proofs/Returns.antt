-- A lone body's flat form is typed, assigned, and returns what the code returns.
use Rattle.std.proofs.Common.{◌≡◌, ◌≢◌, ℕ, zero, suc, ◌+◌, ◌^◌, ◌<◌, List, [], ◌∷◌, length, All, Some, ℤ, FitsSigned, w32, refl, ap, ◌∙◌, subst, arith, slice_get}
use Rattle.std.proofs.lemmas.List.Elements.{recursion_from_All}
use Rattle.std.specs.List.{AllByRecursion}
use Rattle.cil_lone.specs.Cut.{Placed, IsConsecutive}
use Rattle.cil_lone.specs.Lone.{Walks, IsLone}
use Rattle.cil_lone.specs.Laws.{CodeWalks, CodeIsConsecutive, OperandsFit as LoneOperandsFit}
use Rattle.cil_meaning.specs.Meaning.{CilReturns}
use Rattle.cs_body.specs.declared.body.Role.{Role}
use Rattle.cs_body.specs.declared.body.Role.TheVariants.{Param}
use Rattle.cs_body.specs.declared.body.Var.{Var as Variable}
use Rattle.cs_meaning.specs.declared.state.State.{State}
use Rattle.cs_meaning.specs.declared.state.Value.TheVariants.{Int}
use Rattle.cs_meaning.specs.Meaning.{args_left, first_values, CsReturns}
use Rattle.cs_meaning.proofs.Consequences.{bodies_return, returns_one_int}
use Rattle.ilspy_body.specs.Flat.{flat_from, declarations, lone_vars, lone_body}
use Rattle.ilspy_body.specs.Theorem.{ReturnsTheSame, RunsAsTheCode}
use Rattle.ilspy_body.proofs.FlatShape.{AreFlat, OperandsFit, flat_is_flat}
use Rattle.ilspy_body.proofs.FlatBody.{length-lone_vars, flat_typed, flat_assigned}
use Rattle.ilspy_body.proofs.CilRuns.{SameFrom-start, CilReturns-functional}
use Rattle.ilspy_body.proofs.Simulation.{Fits, code_agrees}

-- each operand is an int, by recursion on the code
by_recursion : (code : List Placed) → AllByRecursion (λ (e : Placed). FitsSigned w32 e.1.arg) code → OperandsFit code
by_recursion [] all = tt
by_recursion (e ∷ code) all = (all.0, by_recursion code all.1)

-- each operand is an int, from the law of the crate below
pub operands_fit : (code : List Placed) → All (λ e. FitsSigned w32 e.1.arg) code → OperandsFit code
operands_fit code all = by_recursion code (recursion_from_All (λ (e : Placed). FitsSigned w32 e.1.arg) code all)

-- each variable has its first value
length-first_values : (vars : List Variable) (args : List ℤ) → length (first_values vars args) ≡ length vars
length-first_values [] args = refl
length-first_values (v ∷ vars) args = ap suc (length-first_values vars (args_left v.role args))

-- the first state
abbrev first_state : Role → ℕ → List ℤ → State
first_state role n args = record { vars = first_values (lone_vars role n) args }

-- the first four variables hold the arguments
first_held : (role : Role) (n : ℕ) (a b c d : ℤ) (k : ℕ) (v : ℤ) → k < 4 → slice_get (a ∷ b ∷ c ∷ d ∷ []) k ≡ Some v →
    slice_get ((first_state role n (a ∷ b ∷ c ∷ d ∷ [])).vars) k ≡ Some (Some (Int v))
first_held role n a b c d zero v lt h = cc
first_held role n a b c d (suc zero) v lt h = cc
first_held role n a b c d (suc (suc zero)) v lt h = cc
first_held role n a b c d (suc (suc (suc zero))) v lt h = cc
first_held role n a b c d (suc (suc (suc (suc k)))) v lt h = absurd (omega arith)

-- in the first state the variables fit the machine
first_fits : (role : Role) (n : ℕ) (a b c d : ℤ) → Fits (a ∷ b ∷ c ∷ d ∷ []) 4 n [] [] (first_state role n (a ∷ b ∷ c ∷ d ∷ []))
first_fits role n a b c d =
    let long : length (first_state role n (a ∷ b ∷ c ∷ d ∷ [])).vars ≡ 4 + n =
    length-first_values (lone_vars role n) (a ∷ b ∷ c ∷ d ∷ []) ∙ length-lone_vars role n in
    record { below = tt; four = omega arith; stack_held = tt; args_held = first_held role n a b c d; room = omega arith }

module _ (role : Role) (code : List Placed) (end : ℕ) (walks : Walks 0 code) (cons : IsConsecutive 1 code end) (fits_end : end < 2 ^ 32) (operands : OperandsFit code) where
  -- the code and its flat form return the same number
  both_return : (args : List ℤ) → length args ≡ 4 →
      (v : ℤ) × CilReturns code args v × CsReturns (lone_body role (flat_from 4 [] code)) args v
  both_return [] len = absurd (omega arith)
  both_return (a ∷ []) len = absurd (omega arith)
  both_return (a ∷ b ∷ []) len = absurd (omega arith)
  both_return (a ∷ b ∷ c ∷ []) len = absurd (omega arith)
  both_return (a ∷ b ∷ c ∷ d ∷ e ∷ args) len = absurd (omega arith)
  both_return (a ∷ b ∷ c ∷ d ∷ []) len =
      let args = a ∷ b ∷ c ∷ d ∷ [] in
      let stmts = flat_from 4 [] code in
      let n = declarations stmts in
      let agree =
      code_agrees code end args fits_end refl code 0 operands walks 1 4 [] [] (first_state role n args) (SameFrom-start 1 code) cons refl (first_fits role n a b c d) in
      (agree.number, (agree.cil.count, agree.cil.done), bodies_return (lone_body role stmts) args agree.fuel agree.number agree.cs)

  -- so each returns what the other returns
  pub returns_the_same : ReturnsTheSame code (lone_body role (flat_from 4 [] code))
  returns_the_same = record {
    both = λ args are. both_return args are.0;
    same = λ args v are.
        let body = lone_body role (flat_from 4 [] code) in
        let r = both_return args are.0 in (
          λ cil. subst (CsReturns body args) (CilReturns-functional code args r.0 v r.1 cil) r.2,
          λ cs. subst (CilReturns code args) (returns_one_int body args r.0 v r.2 cs) r.1,
        );
  }

-- the flat form of a lone body's code is flat, and runs as the code
pub record FlatMeansTheSame (role : Role) (code : List Placed) : Type 0 where
  pub flat : AreFlat 4 (flat_from 4 [] code)
  pub runs : RunsAsTheCode code (lone_body role (flat_from 4 [] code))

-- all of this of consecutive code that walks
pub flat_means_the_same : (role : Role) → role ≢ Param → (code : List Placed) (end : ℕ) → Walks 0 code → IsConsecutive 1 code end → end < 2 ^ 32 →
    All (λ e. FitsSigned w32 e.1.arg) code → FlatMeansTheSame role code
flat_means_the_same role apart code end walks cons fits_end all =
    let operands = operands_fit code all in
    let flat = flat_is_flat code operands walks in
    record {
      flat = flat;
      runs = record {
        typed = flat_typed role apart (flat_from 4 [] code) flat;
        assigned = flat_assigned role (flat_from 4 [] code) flat;
        returns = returns_the_same role code end walks cons fits_end operands;
      };
    }

-- what is known of every lone body's code
pub record LoneLaws : Type 0 where
  pub walks : CodeWalks
  pub consecutive : CodeIsConsecutive
  pub operands : LoneOperandsFit

-- the flat form of a lone body runs as its code
pub flat_runs_as : LoneLaws → (role : Role) → role ≢ Param → (file : List ℕ) (code : List Placed) → length file < 2 ^ 32 → IsLone file code → FlatMeansTheSame role code
flat_runs_as laws role apart file code short lone =
    flat_means_the_same role apart code (length file) (laws.walks file code lone) (laws.consecutive file code lone) short (laws.operands file code lone)
