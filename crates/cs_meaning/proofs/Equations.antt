-- The meaning of each form of tree, from the meanings of its parts.
use Rattle.std.proofs.Common.{◌≡◌, ℕ, false, Some, None, sym, ap, ◌∙◌}
use Rattle.cs_body.specs.declared.tree.Literal.{Literal}
use Rattle.cs_body.specs.declared.tree.BinaryOp.{BinaryOp}
use Rattle.cs_body.specs.declared.tree.Expr.{Expr}
use Rattle.cs_body.specs.declared.tree.Expr.TheVariants as expr
use Rattle.cs_body.specs.declared.tree.Stmt.TheVariants as stmt
use Rattle.cs_body.specs.declared.tree.Expr.TheOpen.{Expr-F, Stmt-F}
use Rattle.cs_body.specs.declared.tree.Expr.TheFolds.{fold-roll-Expr, fold-roll-Stmt}
use Rattle.cs_meaning.specs.Ran.{valued, Part}
use Rattle.cs_meaning.specs.Meaning.{Node, Handler, Branch, node, part, handler, branch, expr_meaning, stmt_meaning, literal_value, binary, part_of, declares, returns, read_node}

pub expr_literal : (l : Literal) → expr_meaning (expr.Literal l) ≡ record { place = None; value = valued (literal_value l) }
expr_literal l = ap expr_meaning (sym (expr.rolls-Literal l)) ∙ fold-roll-Expr Node Part Handler Branch node part handler branch (Expr-F.Literal l)

pub expr_var : (v : ℕ) → expr_meaning (expr.Var v) ≡ read_node v
expr_var v = ap expr_meaning (sym (expr.rolls-Var v)) ∙ fold-roll-Expr Node Part Handler Branch node part handler branch (Expr-F.Var v)

pub expr_binary : (op : BinaryOp) (l r : Expr) → expr_meaning (expr.Binary op false l r) ≡ record { place = None; value = binary op (expr_meaning l) (expr_meaning r) }
expr_binary op l r = ap expr_meaning (sym (expr.rolls-Binary op false l r)) ∙ fold-roll-Expr Node Part Handler Branch node part handler branch (Expr-F.Binary op false l r)

pub stmt_decl : (v : ℕ) (e : Expr) → stmt_meaning (stmt.Decl v e) ≡ part_of (declares v (expr_meaning e))
stmt_decl v e = ap stmt_meaning (sym (stmt.rolls-Decl v e)) ∙ fold-roll-Stmt Node Part Handler Branch node part handler branch (Stmt-F.Decl v e)

pub stmt_return : (e : Expr) → stmt_meaning (stmt.Return (Some e)) ≡ part_of (returns (Some (expr_meaning e)))
stmt_return e = ap stmt_meaning (sym (stmt.rolls-Return (Some e))) ∙ fold-roll-Stmt Node Part Handler Branch node part handler branch (Stmt-F.Return (Some e))
