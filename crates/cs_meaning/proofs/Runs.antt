-- Running a list of declarations and a `return`, one statement at a time.
use Rattle.std.proofs.Common.{◌≡◌, ℕ, zero, suc, ◌<◌, false, List, ◌∷◌, length, Option, Some, map, ℤ, refl, ap, ◌∙◌, slice_get}
use Rattle.std.proofs.Common.{◌+ℤ◌, ◌-ℤ◌, ◌*ℤ◌}
use Rattle.std.specs.Int.{int_wrap}
use mir.Syntax.{w32}
use borrow.Author.Tests.{lt-ltb}
use Rattle.cs_body.specs.declared.body.Body.{Body}
use Rattle.cs_meaning.specs.declared.state.State.{State}
use Rattle.cs_meaning.specs.declared.state.Value.{Value}
use Rattle.cs_meaning.specs.declared.state.Value.TheVariants.{Int}
use Rattle.cs_meaning.specs.declared.state.End.TheVariants.{Returns}
use Rattle.cs_body.specs.declared.tree.Literal.TheVariants as literal
use Rattle.cs_body.specs.declared.tree.BinaryOp.{BinaryOp}
use Rattle.cs_body.specs.declared.tree.BinaryOp.TheVariants.{Add, Sub, Mul}
use Rattle.cs_body.specs.declared.tree.Expr.{Expr}
use Rattle.cs_body.specs.declared.tree.Expr.TheVariants as expr
use Rattle.cs_body.specs.declared.tree.Stmt.{Stmt}
use Rattle.cs_body.specs.declared.tree.Stmt.TheVariants as stmt
use Rattle.cs_meaning.specs.Ran.{done, Meaning, end_of, valued, value_in, assigned, Part, after, runs, entry, again}
use Rattle.cs_meaning.specs.Laws.{Gives, RunsTo}
use Rattle.cs_meaning.specs.Meaning.{Node, int_result, expr_meaning, stmt_meaning, block_meaning, initial, CsReturns}
use Rattle.cs_meaning.proofs.Equations.{expr_literal, expr_var, expr_binary, stmt_decl, stmt_return}
use Rattle.cs_meaning.proofs.Fuel.{block_meaning_keeps, one_end}

pub Gives-literal : (i : ℤ) (σ : State) → Gives (expr.Literal (literal.Int i)) σ i
Gives-literal i σ = record { value = ap (λ (d : Node). d.value σ) (expr_literal (literal.Int i)) }

pub Gives-var : (v : ℕ) (σ : State) (x : ℤ) → slice_get σ.vars v ≡ Some (Some (Int x)) → Gives (expr.Var v) σ x
Gives-var v σ x h = record { value = ap (λ (d : Node). d.value σ) (expr_var v) ∙ ap (λ o. valued (value_in o) σ) h }

-- both operands, and then the operator
pub value-binary : (op : BinaryOp) (l r : Expr) (σ : State) (x y : ℤ) → Gives l σ x → Gives r σ y → (expr_meaning (expr.Binary op false l r)).value σ ≡ valued (int_result op x y) σ
value-binary op l r σ x y left right =
    ap (λ (d : Node). d.value σ) (expr_binary op l r) ∙ rw (left.value, right.value) refl

pub Gives-add : (l r : Expr) (σ : State) (x y : ℤ) → Gives l σ x → Gives r σ y → Gives (expr.Binary Add false l r) σ (int_wrap w32 (x +ℤ y))
Gives-add l r σ x y left right = record { value = value-binary Add l r σ x y left right }

pub Gives-sub : (l r : Expr) (σ : State) (x y : ℤ) → Gives l σ x → Gives r σ y → Gives (expr.Binary Sub false l r) σ (int_wrap w32 (x -ℤ y))
Gives-sub l r σ x y left right = record { value = value-binary Sub l r σ x y left right }

pub Gives-mul : (l r : Expr) (σ : State) (x y : ℤ) → Gives l σ x → Gives r σ y → Gives (expr.Binary Mul false l r) σ (int_wrap w32 (x *ℤ y))
Gives-mul l r σ x y left right = record { value = value-binary Mul l r σ x y left right }

-- a declaration sets its variable
pub RunsTo-decl : (v : ℕ) (e : Expr) (rest : List Stmt) (σ : State) (fuel : ℕ) (x y : ℤ) → Gives e σ x → v < length σ.vars →
    RunsTo rest (assigned v (Int x) σ) fuel y → RunsTo (stmt.Decl v e ∷ rest) σ (suc fuel) y
RunsTo-decl v e rest σ fuel x y value there run = record {
  state = run.state;
  left = run.left;
  ran = ap (λ (p : Part). after (p.run (suc fuel) σ) (runs (map stmt_meaning rest))) (stmt_decl v e) ∙ (rw (value.value) (rw (lt-ltb v (length σ.vars) there) run.ran));
}

-- a `return` ends the run, whatever follows
pub RunsTo-return : (e : Expr) (rest : List Stmt) (σ : State) (fuel : ℕ) (x : ℤ) → Gives e σ x → RunsTo (stmt.Return (Some e) ∷ rest) σ (suc fuel) x
RunsTo-return e rest σ fuel x value = record {
  state = σ;
  left = fuel;
  ran = ap (λ (p : Part). after (p.run (suc fuel) σ) (runs (map stmt_meaning rest))) (stmt_return e) ∙ (rw value.value refl);
}

again-returns : (n : ℕ) (at : ℕ → Option Meaning) (v : Option Value) (σ : State) (k : ℕ) → again n at (done (Returns v) σ k) ≡ done (Returns v) σ k
again-returns zero at v σ k = refl
again-returns (suc n) at v σ k = refl

-- a block that returns has no more to do
pub block_done : (stmts : List Stmt) (σ : State) (fuel : ℕ) (v : ℤ) (run : RunsTo stmts σ fuel v) →
    block_meaning stmts fuel σ ≡ done (Returns (Some (Int v))) run.state run.left
block_done stmts σ fuel v run =
    ap (again fuel (entry (map stmt_meaning stmts))) run.ran ∙ again-returns fuel (entry (map stmt_meaning stmts)) (Some (Int v)) run.state run.left

pub block_returns : (stmts : List Stmt) (σ : State) (fuel : ℕ) (v : ℤ) → RunsTo stmts σ fuel v → end_of (block_meaning stmts fuel σ) ≡ Some (Returns (Some (Int v)))
block_returns stmts σ fuel v run = ap end_of (block_done stmts σ fuel v run)

pub CsReturns-from : (body : Body) (args : List ℤ) (fuel : ℕ) (v : ℤ) → RunsTo body.stmts (initial body args) fuel v → CsReturns body args v
CsReturns-from body args fuel v run = (fuel, block_returns body.stmts (initial body args) fuel v run)

-- a body returns one int at most on the same arguments
pub CsReturns-functional : (body : Body) (args : List ℤ) (v w : ℤ) → CsReturns body args v → CsReturns body args w → v ≡ w
CsReturns-functional body args v w a b =
    let same : Returns (Some (Int v)) ≡ Returns (Some (Int w)) = one_end (block_meaning body.stmts) (block_meaning_keeps body.stmts) a.0 b.0 (initial body args) _ _ a.1 b.1 in
    cc
