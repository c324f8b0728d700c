-- A lone body for the tests.
use Rattle.std.specs.Prelude.{false, List, [], ◌∷◌, Some}
use Rattle.cs_body.specs.declared.body.Var.{Var as Variable}
use Rattle.cs_body.specs.declared.body.Role.{Role}
use Rattle.cs_body.specs.declared.body.Role.TheVariants.{Param, SlotVar}
use Rattle.cs_body.specs.declared.tree.BinaryOp.{BinaryOp}
use Rattle.cs_body.specs.declared.tree.Expr.TheVariants as expr
use Rattle.cs_body.specs.declared.tree.Stmt.{Stmt}
use Rattle.cs_body.specs.declared.tree.Stmt.TheVariants as stmt
use Rattle.cs_meaning.specs.Typed.{int_ty}

abbrev pub int_var : Role → Variable
int_var role = record { ty = int_ty; role = role }

-- four parameters and three slots
abbrev pub lone_vars : List Variable
lone_vars = int_var Param ∷ int_var Param ∷ int_var Param ∷ int_var Param ∷ int_var SlotVar ∷ int_var SlotVar ∷ int_var SlotVar ∷ []

-- `int v4 = a0; int v5 = a1; int v6 = v4 op v5; return v6;`
abbrev pub flat_stmts : BinaryOp → List Stmt
flat_stmts op =
    stmt.Decl 4 (expr.Var 0) ∷ stmt.Decl 5 (expr.Var 1) ∷ stmt.Decl 6 (expr.Binary op false (expr.Var 4) (expr.Var 5)) ∷ stmt.Return (Some (expr.Var 6)) ∷ []
