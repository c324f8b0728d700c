-- The typed lone bodies: a static method of four ints that no type declares, whose result is an int.
use Rattle.std.specs.Prelude.{◌≡◌, ◌≢◌, ℕ, ◌<◌, ◌≤◌, false, List, [], ◌∷◌, length, All, ℤ}
use Rattle.std.specs.Prelude.{None, Some, FitsSigned}
use Rattle.std.specs.Int.{w32}
use Rattle.dc_base.specs.declared.ty.Ty.{Ty}
use Rattle.dc_base.specs.declared.ty.Core.TheVariants.{Prim}
use Rattle.dc_base.specs.declared.ty.Prim_.TheVariants.{I4}
use Rattle.cs_body.specs.declared.body.Body.{Body}
use Rattle.cs_body.specs.declared.body.Var.{Var as Variable}
use Rattle.cs_body.specs.declared.body.Role.TheVariants.{Param}
use Rattle.cs_body.specs.declared.tree.Literal.TheVariants.{Int}
use Rattle.cs_body.specs.declared.tree.BinaryOp.{BinaryOp}
use Rattle.cs_body.specs.declared.tree.BinaryOp.TheVariants.{Add, Sub, Mul}
use Rattle.cs_body.specs.declared.tree.Expr.{Expr}
use Rattle.cs_body.specs.declared.tree.Expr.TheVariants as expr
use Rattle.cs_body.specs.declared.tree.Stmt.{Stmt}
use Rattle.cs_body.specs.declared.tree.Stmt.TheVariants as stmt

-- the type `int` (ECMA-334, 8.3.6)
abbrev pub int_ty : Ty
int_ty = record { core = Prim I4; arrays = 0; lent = false }

pub record IsIntParam (v : Variable) : Type 0 where
  pub int : v.ty ≡ int_ty
  pub param : v.role ≡ Param

pub record IsIntLocal (v : Variable) : Type 0 where
  pub int : v.ty ≡ int_ty
  pub local : v.role ≢ Param

-- the first four variables are the parameters, and no other is one
abbrev pub AreLoneVars : List Variable → Type 0
AreLoneVars (a ∷ b ∷ c ∷ d ∷ rest) = IsIntParam a × IsIntParam b × IsIntParam c × IsIntParam d × All IsIntLocal rest
AreLoneVars _ = ⊥

-- the operators of lone bodies
pub data IsArithmetic : BinaryOp → Type 0 where
  add : IsArithmetic Add
  sub : IsArithmetic Sub
  mul : IsArithmetic Mul

-- an expression of type int over so many int variables: literals of 32 bits, variables, and unchecked
-- operators on ints (ECMA-334, 8.3.6, 12.10)
pub data IsIntExpr (vars : ℕ) : Expr → Type 0 where
  literal : (i : ℤ) → FitsSigned w32 i → IsIntExpr vars (expr.Literal (Int i))
  variable : (v : ℕ) → v < vars → IsIntExpr vars (expr.Var v)
  binary : (op : BinaryOp) (l r : Expr) → IsArithmetic op → IsIntExpr vars l → IsIntExpr vars r → IsIntExpr vars (expr.Binary op false l r)

-- a statement of a lone body: it declares a variable that is no parameter, or returns an int (ECMA-334, 13.6.2, 13.10.5)
pub data IsLoneStmt (vars : ℕ) : Stmt → Type 0 where
  declares : (v : ℕ) (e : Expr) → 4 ≤ v → v < vars → IsIntExpr vars e → IsLoneStmt vars (stmt.Decl v e)
  returns : (e : Expr) → IsIntExpr vars e → IsLoneStmt vars (stmt.Return (Some e))

-- the statements of a lone body; the last is a `return`, so that its end isn't reached (ECMA-334, 13.2)
pub data AreLoneStmts (vars : ℕ) : List Stmt → Type 0 where
  last : (e : Expr) → IsIntExpr vars e → AreLoneStmts vars (stmt.Return (Some e) ∷ [])
  more : (s : Stmt) (rest : List Stmt) → IsLoneStmt vars s → AreLoneStmts vars rest → AreLoneStmts vars (s ∷ rest)

pub record IsLoneTyped (body : Body) : Type 0 where
  pub no_owner : body.home.owner ≡ None
  pub static_method : body.home.instance ≡ false
  pub no_constructor : body.home.constructs ≡ false
  pub result_int : body.home.result ≡ int_ty
  pub vars : AreLoneVars body.vars
  pub stmts : AreLoneStmts (length body.vars) body.stmts
