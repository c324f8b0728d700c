-- The body of the tests is typed and definitely assigned.
use Rattle.std.proofs.Common.{◌≡◌, List, [], ◌∷◌, All, None, false, refl, arith}
use Rattle.std.proofs.lemmas.List.Elements.{All-cons}
use Rattle.cs_body.specs.declared.body.Home.{Home}
use Rattle.cs_body.specs.declared.body.Var.{Var as Variable}
use Rattle.cs_body.specs.declared.tree.BinaryOp.{BinaryOp}
use Rattle.cs_body.specs.declared.tree.Stmt.{Stmt}
use Rattle.cs_body.specs.declared.tree.Expr.TheVariants as expr
use Rattle.cs_meaning.specs.Typed as typed
use Rattle.cs_meaning.specs.Typed.{int_ty, IsArithmetic, IsIntLocal, IsLoneTyped}
use Rattle.cs_meaning.specs.Assigned as reads
use Rattle.cs_meaning.specs.Assigned.{RunsAssigned, params_from}
use Rattle.cs_body.specs.declared.body.Role.TheVariants.{Param, SlotVar}
use Rattle.cs_meaning.specs.Samples.{int_var, lone_vars, flat_stmts}

int_param : typed.IsIntParam (int_var Param)
int_param = record { int = refl; param = refl }

int_slot : IsIntLocal (int_var SlotVar)
int_slot = record { int = refl; local = λ e. cc }

no_slots : All IsIntLocal []
no_slots k d below = absurd (omega arith)

slots : All IsIntLocal (int_var SlotVar ∷ int_var SlotVar ∷ int_var SlotVar ∷ [])
slots =
    All-cons IsIntLocal (int_var SlotVar) (int_var SlotVar ∷ int_var SlotVar ∷ []) int_slot
    (All-cons IsIntLocal (int_var SlotVar) (int_var SlotVar ∷ []) int_slot
    (All-cons IsIntLocal (int_var SlotVar) [] int_slot no_slots))

pub flat_typed : (home : Home) (op : BinaryOp) → home.owner ≡ None → home.instance ≡ false → home.constructs ≡ false → home.result ≡ int_ty → IsArithmetic op →
    IsLoneTyped (record { home = home; vars = lone_vars; stmts = flat_stmts op })
flat_typed home op no_owner static no_constructor result_is is = record {
  no_owner = no_owner;
  static_method = static;
  no_constructor = no_constructor;
  result_int = result_is;
  vars = (int_param, int_param, int_param, int_param, slots);
  stmts = typed.more _ _ (typed.declares 4 (expr.Var 0) (omega arith) (omega arith) (typed.variable 0 (omega arith)))
      (typed.more _ _ (typed.declares 5 (expr.Var 1) (omega arith) (omega arith) (typed.variable 1 (omega arith)))
      (typed.more _ _ (typed.declares 6 (expr.Binary op false (expr.Var 4) (expr.Var 5)) (omega arith) (omega arith)
      (typed.binary op (expr.Var 4) (expr.Var 5) is (typed.variable 4 (omega arith)) (typed.variable 5 (omega arith))))
      (typed.last (expr.Var 6) (typed.variable 6 (omega arith)))));
}

pub flat_assigned : (op : BinaryOp) → RunsAssigned (params_from 0 lone_vars) (flat_stmts op)
flat_assigned op =
    reads.declares _ 4 (expr.Var 0) _ (reads.variable 0 (0, omega arith, refl))
    (reads.declares _ 5 (expr.Var 1) _ (reads.variable 1 (2, omega arith, refl))
    (reads.declares _ 6 (expr.Binary op false (expr.Var 4) (expr.Var 5)) _
    (reads.binary op false (expr.Var 4) (expr.Var 5) (reads.variable 4 (1, omega arith, refl)) (reads.variable 5 (0, omega arith, refl)))
    (reads.returns _ (expr.Var 6) [] (reads.variable 6 (0, omega arith, refl)))))

pub body_typed : (home : Home) (vars : List Variable) (stmts : List Stmt) (op : BinaryOp) → home.owner ≡ None → home.instance ≡ false → home.constructs ≡ false → home.result ≡ int_ty → vars ≡ lone_vars →
    stmts ≡ flat_stmts op → IsArithmetic op → IsLoneTyped (record { home = home; vars = vars; stmts = stmts })
body_typed home vars stmts op no_owner static no_constructor result_is same_vars same_stmts is =
    rw (same_vars, same_stmts) (flat_typed home op no_owner static no_constructor result_is is)

pub body_assigned : (vars : List Variable) (stmts : List Stmt) (op : BinaryOp) → vars ≡ lone_vars → stmts ≡ flat_stmts op → RunsAssigned (params_from 0 vars) stmts
body_assigned vars stmts op same_vars same_stmts = rw (same_vars, same_stmts) (flat_assigned op)
