-- What follows from the meaning of expressions and statements, for the crates above.
use Rattle.std.specs.Prelude.{◌≡◌, ℕ, suc, ◌<◌, ℤ, ◌+ℤ◌, ◌-ℤ◌, ◌*ℤ◌, false, List, ◌∷◌, length, Some, map, slice_get}
use Rattle.std.specs.Int.{w32, int_wrap}
use Rattle.cs_body.specs.declared.body.Body.{Body}
use Rattle.cs_meaning.specs.declared.state.State.{State}
use Rattle.cs_meaning.specs.declared.state.Value.TheVariants.{Int}
use Rattle.cs_meaning.specs.declared.state.End.TheVariants.{Returns}
use Rattle.cs_body.specs.declared.tree.Literal.TheVariants as literal
use Rattle.cs_body.specs.declared.tree.BinaryOp.{BinaryOp}
use Rattle.cs_body.specs.declared.tree.BinaryOp.TheVariants.{Add, Sub, Mul}
use Rattle.cs_body.specs.declared.tree.Expr.{Expr}
use Rattle.cs_body.specs.declared.tree.Expr.TheVariants as expr
use Rattle.cs_body.specs.declared.tree.Stmt.{Stmt}
use Rattle.cs_body.specs.declared.tree.Stmt.TheVariants as stmt
use Rattle.cs_meaning.specs.Ran.{gives, done, assigned, runs}
use Rattle.cs_meaning.specs.Meaning.{expr_meaning, stmt_meaning, initial, CsReturns}

-- in this state the expression has this int as its value, and changes nothing
pub record Gives (e : Expr) (σ : State) (x : ℤ) : Type 0 where
  pub value : (expr_meaning e).value σ ≡ gives (Int x) σ

-- the statements return this int, with so much fuel
pub record RunsTo (stmts : List Stmt) (σ : State) (fuel : ℕ) (v : ℤ) : Type 0 where
  pub state : State
  pub left : ℕ
  pub ran : runs (map stmt_meaning stmts) fuel σ ≡ done (Returns (Some (Int v))) state left

abbrev pub LiteralsGive : Type 0
LiteralsGive = (i : ℤ) (σ : State) → Gives (expr.Literal (literal.Int i)) σ i

abbrev pub VariablesGive : Type 0
VariablesGive = (v : ℕ) (σ : State) (x : ℤ) → slice_get σ.vars v ≡ Some (Some (Int x)) → Gives (expr.Var v) σ x

-- of two ints the operator gives this int, with the low 32 bits kept
abbrev pub OperatorGives : BinaryOp → (ℤ → ℤ → ℤ) → Type 0
OperatorGives op value =
    (l r : Expr) (σ : State) (x y : ℤ) → Gives l σ x → Gives r σ y → Gives (expr.Binary op false l r) σ (int_wrap w32 (value x y))

abbrev pub SumsGive : Type 0
SumsGive = OperatorGives Add (λ x y. x +ℤ y)

abbrev pub DifferencesGive : Type 0
DifferencesGive = OperatorGives Sub (λ x y. x -ℤ y)

abbrev pub ProductsGive : Type 0
ProductsGive = OperatorGives Mul (λ x y. x *ℤ y)

-- a declaration sets its variable, and takes one unit of fuel
abbrev pub DeclarationsRun : Type 0
DeclarationsRun =
    (v : ℕ) (e : Expr) (rest : List Stmt) (σ : State) (fuel : ℕ) (x y : ℤ) → Gives e σ x → v < length σ.vars
    → RunsTo rest (assigned v (Int x) σ) fuel y → RunsTo (stmt.Decl v e ∷ rest) σ (suc fuel) y

-- a `return` ends the run, whatever follows
abbrev pub ReturnsEnd : Type 0
ReturnsEnd = (e : Expr) (rest : List Stmt) (σ : State) (fuel : ℕ) (x : ℤ) → Gives e σ x → RunsTo (stmt.Return (Some e) ∷ rest) σ (suc fuel) x

-- a body whose statements return an int returns it
abbrev pub BodiesReturn : Type 0
BodiesReturn = (body : Body) (args : List ℤ) (fuel : ℕ) (v : ℤ) → RunsTo body.stmts (initial body args) fuel v → CsReturns body args v

-- a body returns one int at most on the same arguments
abbrev pub ReturnsOneInt : Type 0
ReturnsOneInt = (body : Body) (args : List ℤ) (v w : ℤ) → CsReturns body args v → CsReturns body args w → v ≡ w
