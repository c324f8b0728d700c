-- What the statements of a flat form look like: each declares the next variable, and the last returns one.
use Rattle.std.proofs.Common.{◌≡◌, ℕ, ◌+◌, ◌-◌, ◌<◌, ◌≤◌, List, [], ◌∷◌, length, Some, ℤ, FitsSigned, w32, false, refl, arith, rules}
use Rattle.cil_instruction.specs.declared.opcode.Op.{Op}
use Rattle.cil_instruction.specs.declared.opcode.Op.TheVariants as op
use Rattle.cil_lone.specs.declared.row.Row.{Row}
use Rattle.cil_lone.specs.declared.row.Row.TheVariants.{Load, Binary, Return, Beyond}
use Rattle.cil_lone.specs.declared.row.Source.{Source}
use Rattle.cil_lone.specs.declared.row.Source.TheVariants.{Argument, Number, Operand}
use Rattle.cil_lone.specs.declared.row.Two.{Two}
use Rattle.cil_lone.specs.declared.row.Two.TheVariants.{Add, Sub, Mul}
use Rattle.cil_lone.specs.Row.{row_of}
use Rattle.cil_lone.specs.Cut.{Placed}
use Rattle.cil_lone.specs.Lone.{depth_after, DoesItsPart, Walks}
use Rattle.cs_body.specs.declared.tree.Literal.TheVariants.{Int}
use Rattle.cs_body.specs.declared.tree.BinaryOp.{BinaryOp}
use Rattle.cs_body.specs.declared.tree.Expr.{Expr}
use Rattle.cs_body.specs.declared.tree.Expr.TheVariants as expr
use Rattle.cs_body.specs.declared.tree.Stmt.{Stmt}
use Rattle.cs_body.specs.declared.tree.Stmt.TheVariants as stmt
use Rattle.cs_meaning.specs.Typed.{IsArithmetic, add, sub, mul}
use Rattle.ilspy_body.specs.Flat.{sign_of, loaded_form, pushed, declared_by, flat_from}

-- what a declaration of variable `next` may have as its value: an int, a variable, or an operator on two variables
pub data IsFlatForm (next : ℕ) : Expr → Type 0 where
  number : (n : ℤ) → FitsSigned w32 n → IsFlatForm next (expr.Literal (Int n))
  variable : (x : ℕ) → x < next → IsFlatForm next (expr.Var x)
  operator : (op : BinaryOp) (x y : ℕ) → IsArithmetic op → x < next → y < next →
      IsFlatForm next (expr.Binary op false (expr.Var x) (expr.Var y))

-- the statements of a flat form, where `next` is the number of the next variable
pub data AreFlat : ℕ → List Stmt → Type 0 where
  last : (next x : ℕ) → x < next → AreFlat next (stmt.Return (Some (expr.Var x)) ∷ [])
  more : (next : ℕ) (value : Expr) (rest : List Stmt) → IsFlatForm next value → AreFlat (next + 1) rest →
      AreFlat next (stmt.Decl next value ∷ rest)

-- each operand of the code is an int
abbrev pub OperandsFit : List Placed → Type 0
OperandsFit [] = Unit {0}
OperandsFit (e ∷ code) = FitsSigned w32 e.1.arg × OperandsFit code

-- the variables of the slots are declared
abbrev pub AreBelow : ℕ → List ℕ → Type 0
AreBelow next [] = Unit {0}
AreBelow next (x ∷ slots) = (x < next) × AreBelow next slots

-- what is loaded is one of the four arguments, or an int
abbrev pub IsFineSource : Source → ℤ → Type 0
IsFineSource (Argument k) arg = k < 4
IsFineSource (Number n) arg = FitsSigned w32 n
IsFineSource Operand arg = FitsSigned w32 arg

abbrev pub IsFineRow : Row → ℤ → Type 0
IsFineRow (Load source) arg = IsFineSource source arg
IsFineRow (Binary two) arg = Unit {0}
IsFineRow Return arg = Unit {0}
IsFineRow Beyond arg = Unit {0}

-- each instruction loads so
pub fine_row : (o : Op) (arg : ℤ) → FitsSigned w32 arg → IsFineRow (row_of o) arg
fine_row op.Ldarg0 arg fits = omega arith
fine_row op.Ldarg1 arg fits = omega arith
fine_row op.Ldarg2 arg fits = omega arith
fine_row op.Ldarg3 arg fits = omega arith
fine_row op.LdcI4M1 arg fits = search rules
fine_row op.LdcI40 arg fits = search rules
fine_row op.LdcI41 arg fits = search rules
fine_row op.LdcI42 arg fits = search rules
fine_row op.LdcI43 arg fits = search rules
fine_row op.LdcI44 arg fits = search rules
fine_row op.LdcI45 arg fits = search rules
fine_row op.LdcI46 arg fits = search rules
fine_row op.LdcI47 arg fits = search rules
fine_row op.LdcI48 arg fits = search rules
fine_row op.LdcI4S arg fits = fits
fine_row op.LdcI4 arg fits = fits
fine_row op.Add arg fits = tt
fine_row op.Sub arg fits = tt
fine_row op.Mul arg fits = tt
fine_row op.Ret arg fits = tt
fine_row _ arg fits = tt

-- one more variable
pub more_below : (next : ℕ) (slots : List ℕ) → AreBelow next slots → AreBelow (next + 1) slots
more_below next [] below = tt
more_below next (x ∷ slots) below = (omega (arith, below.0), more_below next slots below.1)

-- an operator of CIL is arithmetic in C#
pub sign_arithmetic : (two : Two) → IsArithmetic (sign_of two)
sign_arithmetic Add = add
sign_arithmetic Sub = sub
sign_arithmetic Mul = mul

-- what a load pushes is a flat form
pub loaded_flat : (source : Source) (arg : ℤ) (next : ℕ) → 4 ≤ next → IsFineSource source arg →
    IsFlatForm next (loaded_form source arg)
loaded_flat (Argument k) arg next four fine = variable k (omega arith)
loaded_flat (Number n) arg next four fine = number n fine
loaded_flat Operand arg next four fine = number arg fine

-- the code's statements are flat, from any variables of so many slots
abbrev FlatFrom : ℕ → List Placed → Type 0
FlatFrom depth code =
    (next : ℕ) (slots : List ℕ) → length slots ≡ depth → AreBelow next slots → 4 ≤ next → AreFlat next (flat_from next slots code)

-- so is an instruction before it
row_flat : (r : Row) (arg : ℤ) (depth : ℕ) (code : List Placed) → IsFineRow r arg → ((d : ℕ) → Walks d code → FlatFrom d code) →
    DoesItsPart r depth code (Walks (depth_after depth r) code) →
    (next : ℕ) (slots : List ℕ) → length slots ≡ depth → AreBelow next slots → 4 ≤ next →
    AreFlat next (declared_by (pushed r arg slots) next slots (λ above. flat_from (next + 1) above code))
row_flat (Load source) arg depth code fine rest walks next slots len below four =
    more next (loaded_form source arg) (flat_from (next + 1) (next ∷ slots) code) (loaded_flat source arg next four fine)
    (rest (depth + 1) walks (next + 1) (next ∷ slots) (omega arith) (omega arith, more_below next slots below) (omega arith))
row_flat (Binary two) arg depth code fine rest walks next [] len below four = absurd (omega (arith, walks.0))
row_flat (Binary two) arg depth code fine rest walks next (y ∷ []) len below four = absurd (omega (arith, walks.0))
row_flat (Binary two) arg depth code fine rest walks next (y ∷ x ∷ slots) len below four =
    more next (expr.Binary (sign_of two) false (expr.Var x) (expr.Var y)) (flat_from (next + 1) (next ∷ slots) code)
    (operator (sign_of two) x y (sign_arithmetic two) below.1.0 below.0)
    (rest (depth - 1) walks.1 (next + 1) (next ∷ slots) (omega arith) (omega arith, more_below next slots below.1.1) (omega arith))
row_flat Return arg depth code fine rest walks next [] len below four = absurd (omega (arith, walks.0))
row_flat Return arg depth code fine rest walks next (v ∷ slots) len below four = last next v below.0
row_flat Beyond arg depth code fine rest walks next slots len below four = absurd walks

-- the statements of code that walks are flat
pub code_flat : (code : List Placed) (depth : ℕ) → OperandsFit code → Walks depth code → FlatFrom depth code
code_flat [] depth fits walks next slots len below four = absurd walks
code_flat (e ∷ code) depth fits walks next slots len below four =
    row_flat (row_of e.1.op) e.1.arg depth code (fine_row e.1.op e.1.arg fits.0) (λ d w. code_flat code d fits.1 w) walks next slots len below four

-- the statements of a lone body are flat
pub flat_is_flat : (code : List Placed) → OperandsFit code → Walks 0 code → AreFlat 4 (flat_from 4 [] code)
flat_is_flat code fits walks = code_flat code 0 fits walks 4 [] refl tt (omega arith)
