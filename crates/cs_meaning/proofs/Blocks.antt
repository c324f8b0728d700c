-- A block whose statements are no labels runs them one after another.
use Rattle.std.proofs.Common.{◌≡◌, ℕ, zero, suc, cond, List, [], ◌∷◌, Option, Some, None, map, refl, ap, ◌∙◌}
use Rattle.cs_meaning.specs.declared.state.State.{State}
use Rattle.cs_meaning.specs.declared.state.End.TheVariants.{Falls, Breaks, Continues, Goes, Returns, Throws, Asks, Wrong}
use Rattle.cs_body.specs.declared.tree.Stmt.{Stmt, fold_out-Stmt}
use Rattle.cs_body.specs.declared.tree.Expr.TheOpen.{Stmt-F}
use Rattle.cs_meaning.specs.Ran.{Ran, spent, done, Meaning, Part, runs, is_label, entry, landed, jump, again}
use Rattle.cs_meaning.specs.Meaning.{Node, Handler, Branch, node, part, handler, branch, stmt_meaning, block_meaning}

part_label : (x : Stmt-F Node Part Handler Branch) → (part x).label ≡ None
part_label (Stmt-F.Decl v e) = refl
part_label (Stmt-F.Return e) = refl
part_label _ = refl

stmt_label : (s : Stmt) → (stmt_meaning s).label ≡ None
stmt_label s = rw (fold_out-Stmt Node Part Handler Branch node part handler branch s) (part_label _)

entry_none : (stmts : List Stmt) (l : ℕ) → entry (map stmt_meaning stmts) l ≡ None
entry_none [] l = refl
entry_none (s ∷ rest) l =
    ap (λ o. cond (is_label l o) (Some (runs (map stmt_meaning (s ∷ rest)))) (entry (map stmt_meaning rest) l)) (stmt_label s) ∙ entry_none rest l

jump_out : (at : ℕ → Option Meaning) → ((l : ℕ) → at l ≡ None) → (r : Ran) (f : Ran → Ran) → jump at r f ≡ r
jump_out at out spent f = refl
jump_out at out (done Falls σ n) f = refl
jump_out at out (done Breaks σ n) f = refl
jump_out at out (done Continues σ n) f = refl
jump_out at out (done (Goes l) σ n) f = ap (λ o. landed o l σ n f) (out l)
jump_out at out (done (Returns v) σ n) f = refl
jump_out at out (done (Throws v) σ n) f = refl
jump_out at out (done Asks σ n) f = refl
jump_out at out (done Wrong σ n) f = refl

again_out : (n : ℕ) (at : ℕ → Option Meaning) → ((l : ℕ) → at l ≡ None) → (r : Ran) → again n at r ≡ r
again_out zero at out r = jump_out at out r (λ _. spent)
again_out (suc n) at out r = jump_out at out r (again n at)

pub block_runs : (stmts : List Stmt) (n : ℕ) (σ : State) → block_meaning stmts n σ ≡ runs (map stmt_meaning stmts) n σ
block_runs stmts n σ = again_out n (entry (map stmt_meaning stmts)) (entry_none stmts) (runs (map stmt_meaning stmts) n σ)
