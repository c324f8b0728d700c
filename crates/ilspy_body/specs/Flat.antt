-- The flat form of a lone body: each push makes a variable of its own.
use Rattle.std.specs.Prelude.{◌≡◌, ℕ, ◌+◌, ℤ, false, List, [], ◌∷◌, ◌++◌, Option, Some, None, replicate}
use Rattle.cil_lone.specs.declared.row.Row.{Row}
use Rattle.cil_lone.specs.declared.row.Row.TheVariants.{Load, Binary, Return, Beyond}
use Rattle.cil_lone.specs.declared.row.Source.{Source}
use Rattle.cil_lone.specs.declared.row.Source.TheVariants.{Argument, Number, Operand}
use Rattle.cil_lone.specs.declared.row.Two.{Two}
use Rattle.cil_lone.specs.declared.row.Two.TheVariants.{Add, Sub, Mul}
use Rattle.cil_lone.specs.Row.{row_of}
use Rattle.cil_lone.specs.Cut.{Placed}
use Rattle.cs_body.specs.declared.body.Body.{Body}
use Rattle.cs_body.specs.declared.body.Home.{Home}
use Rattle.cs_body.specs.declared.body.Var.{Var as Variable}
use Rattle.cs_body.specs.declared.body.Role.{Role}
use Rattle.cs_body.specs.declared.body.Role.TheVariants.{Param, SlotVar}
use Rattle.cs_body.specs.declared.tree.Literal.TheVariants.{Int}
use Rattle.cs_body.specs.declared.tree.BinaryOp.{BinaryOp}
use Rattle.cs_body.specs.declared.tree.BinaryOp.TheVariants.{Add as AddInts, Sub as SubInts, Mul as MulInts}
use Rattle.cs_body.specs.declared.tree.Expr.{Expr}
use Rattle.cs_body.specs.declared.tree.Expr.TheVariants as expr
use Rattle.cs_body.specs.declared.tree.Stmt.{Stmt}
use Rattle.cs_body.specs.declared.tree.Stmt.TheVariants as stmt
use Rattle.cs_body.specs.declared.tree.Expr.TheOpen.{Stmt-F}
use Rattle.cs_body.specs.declared.tree.Expr.TheFolds.{fold-Stmt}
use Rattle.cs_meaning.specs.Typed.{int_ty}

-- the operator of C# for one of CIL
abbrev pub sign_of : Two → BinaryOp
sign_of Add = AddInts
sign_of Sub = SubInts
sign_of Mul = MulInts

-- what a load pushes
abbrev pub loaded_form : Source → ℤ → Expr
loaded_form (Argument k) arg = expr.Var k
loaded_form (Number n) arg = expr.Literal (Int n)
loaded_form Operand arg = expr.Literal (Int arg)

-- What a row pushes, and the variables of the slots that it leaves below, the topmost first; nothing where it pushes
-- nothing or finds too few slots. An operator has the upper slot on its right.
abbrev pub pushed : Row → ℤ → List ℕ → Option (Expr × List ℕ)
pushed (Load source) arg slots = Some (loaded_form source arg, slots)
pushed (Binary two) arg (y ∷ x ∷ below) = Some (expr.Binary (sign_of two) false (expr.Var x) (expr.Var y), below)
pushed (Binary two) arg (y ∷ []) = None
pushed (Binary two) arg [] = None
pushed Return arg slots = None
pushed Beyond arg slots = None

-- a row pushes this value, with the slots that it takes gone, or nothing, with all of them there
abbrev pub Pushes : Row → ℤ → List ℕ → List ℕ → Option Expr → Type 0
Pushes row arg old new None = (pushed row arg old ≡ None) × (new ≡ old)
Pushes row arg old new (Some value) = pushed row arg old ≡ Some (value, new)

-- a ret returns the topmost slot
abbrev pub returned : List ℕ → List Stmt
returned [] = []
returned (v ∷ below) = stmt.Return (Some (expr.Var v)) ∷ []

-- A push declares the next variable, which stands for the new slot; where nothing is pushed, the code returns.
abbrev pub declared_by : Option (Expr × List ℕ) → ℕ → List ℕ → (List ℕ → List Stmt) → List Stmt
declared_by (Some (value, below)) next slots rest = stmt.Decl next value ∷ rest (next ∷ below)
declared_by None next slots rest = returned slots

-- the statements of code, where `next` is the number of the next variable and `slots` has the stack's variables
abbrev pub flat_from : ℕ → List ℕ → List Placed → List Stmt
flat_from next slots [] = []
flat_from next slots (e ∷ code) =
    declared_by (pushed (row_of e.1.op) e.1.arg slots) next slots (λ above. flat_from (next + 1) above code)

-- how many variables a statement declares
abbrev pub declared : Stmt-F ℕ ℕ ℕ ℕ → ℕ
declared (Stmt-F.Decl var value) = 1
declared _ = 0

abbrev pub declared_in : Stmt → ℕ
declared_in = fold-Stmt ℕ ℕ ℕ ℕ (λ _. 0) declared (λ _. 0) (λ _. 0)

abbrev pub declarations : List Stmt → ℕ
declarations [] = 0
declarations (s ∷ stmts) = declared_in s + declarations stmts

abbrev pub int_var : Role → Variable
int_var role = record { ty = int_ty; role = role }

-- the variables: four int parameters, and so many ints of a role
abbrev pub lone_vars : Role → ℕ → List Variable
lone_vars role n = replicate 4 (int_var Param) ++ replicate n (int_var role)

-- a static method that no type declares, and that returns an int
abbrev pub lone_home : Home
lone_home = record { owner = None; instance = false; constructs = false; result = int_ty }

-- a body of these statements, whose variables other than the parameters have this role
abbrev pub lone_body : Role → List Stmt → Body
lone_body role stmts = record { home = lone_home; vars = lone_vars role (declarations stmts); stmts = stmts }

-- the flat form of a lone body's code
abbrev pub flat_of : List Placed → Body
flat_of code = lone_body SlotVar (flat_from 4 [] code)
