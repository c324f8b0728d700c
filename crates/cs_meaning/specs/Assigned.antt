-- Definite assignment (ECMA-334, 9.4) of a lone body.
use Rattle.std.specs.Prelude.{ℕ, ◌+◌, Bool, List, [], ◌∷◌, Contains}
use Rattle.std.specs.Prelude.{Some}
use Rattle.cs_body.specs.declared.body.Body.{Body}
use Rattle.cs_body.specs.declared.body.Var.{Var as Variable}
use Rattle.cs_body.specs.declared.body.Role.{Role}
use Rattle.cs_body.specs.declared.body.Role.TheVariants.{Param}
use Rattle.cs_body.specs.declared.tree.Literal.{Literal}
use Rattle.cs_body.specs.declared.tree.BinaryOp.{BinaryOp}
use Rattle.cs_body.specs.declared.tree.Expr.{Expr}
use Rattle.cs_body.specs.declared.tree.Expr.TheVariants as expr
use Rattle.cs_body.specs.declared.tree.Stmt.{Stmt}
use Rattle.cs_body.specs.declared.tree.Stmt.TheVariants as stmt

-- the numbers of the parameters, which are initially assigned (ECMA-334, 9.4.2)
abbrev pub with_param : Role → ℕ → List ℕ → List ℕ
with_param Param k rest = k ∷ rest
with_param _ k rest = rest

abbrev pub params_from : ℕ → List Variable → List ℕ
params_from k [] = []
params_from k (v ∷ vs) = with_param v.role k (params_from (k + 1) vs)

-- the expression reads assigned variables alone (ECMA-334, 9.4.4.21 and after)
pub data ReadsAssigned (assigned : List ℕ) : Expr → Type 0 where
  literal : (l : Literal) → ReadsAssigned assigned (expr.Literal l)
  variable : (v : ℕ) → Contains assigned v → ReadsAssigned assigned (expr.Var v)
  binary : (op : BinaryOp) (checked : Bool) (l r : Expr) → ReadsAssigned assigned l → ReadsAssigned assigned r → ReadsAssigned assigned (expr.Binary op checked l r)

-- so do the statements: a declared variable is assigned after its declaration, and what follows a `return` isn't
-- reached (ECMA-334, 9.4.4.5, 9.4.4.13 and 9.4.4.2)
pub data RunsAssigned : List ℕ → List Stmt → Type 0 where
  ends : (assigned : List ℕ) → RunsAssigned assigned []
  declares : (assigned : List ℕ) (v : ℕ) (e : Expr) (rest : List Stmt) → ReadsAssigned assigned e → RunsAssigned (v ∷ assigned) rest → RunsAssigned assigned (stmt.Decl v e ∷ rest)
  returns : (assigned : List ℕ) (e : Expr) (rest : List Stmt) → ReadsAssigned assigned e → RunsAssigned assigned (stmt.Return (Some e) ∷ rest)

abbrev pub IsDefinitelyAssigned : Body → Type 0
IsDefinitelyAssigned body = RunsAssigned (params_from 0 body.vars) body.stmts
