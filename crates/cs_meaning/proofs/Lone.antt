-- A typed and definitely assigned lone body returns an int.
use Rattle.std.proofs.Common.{◌≡◌, ℕ, zero, suc, ◌+◌, ◌<◌, ◌≤◌, true, false, List, [], ◌∷◌, length, Option, Some, None, Ok, slice_index_or, ℤ, ◌+ℤ◌, ◌-ℤ◌, ◌*ℤ◌, refl, ap, ◌∙◌, subst, arith, slice_get, slice_set, All, Contains, ⊎_elim, ◌≢◌, eqb}
use Rattle.std.specs.Int.{int_wrap}
use mir.Syntax.{w32}
use Rattle.cs_body.specs.declared.body.Body.{Body}
use Rattle.cs_body.specs.declared.body.Var.{Var as Variable}
use Rattle.cs_body.specs.declared.body.Role.TheVariants.{Param, Local, SlotVar, Join, Captured}
use Rattle.cs_body.specs.declared.body.Role.{Role}
use Rattle.cs_meaning.specs.declared.state.State.{State}
use Rattle.cs_meaning.specs.declared.state.Value.{Value}
use Rattle.cs_meaning.specs.declared.state.Value.TheVariants.{Int}
use Rattle.cs_body.specs.declared.tree.BinaryOp.{BinaryOp}
use Rattle.cs_body.specs.declared.tree.Expr.{Expr}
use Rattle.cs_body.specs.declared.tree.Expr.TheVariants as expr
use Rattle.cs_body.specs.declared.tree.Expr.TheBlock.{hidden-the_row-Expr-0}
use denote.Hole.Carrier.{hidden}
use Rattle.cs_body.specs.declared.tree.Stmt.{Stmt}
use Rattle.cs_meaning.specs.Ran.{assigned, end_of}
use Rattle.cs_meaning.specs.Run.{EndsAs, returned_int}
use Rattle.cs_meaning.specs.declared.state.End.{End}
use Rattle.cs_meaning.specs.declared.state.End.TheVariants.{Returns}
use Rattle.cs_meaning.specs.Meaning.{args_left, first_values, initial, block_meaning, CsReturns}
use Rattle.cs_meaning.specs.Typed as typed
use Rattle.cs_meaning.specs.Assigned as reads
use Rattle.std.proofs.lemmas.List.{length-set}
use Rattle.std.proofs.lemmas.List.Elements.{All-head, All-tail}
use Rattle.std.proofs.lemmas.Bool.Decides.{eqb_tells}
use Rattle.cs_meaning.proofs.Vars.{slice_get-set_same, slice_get-set_other, Contains-cons_cases}
use Rattle.cs_meaning.specs.Laws.{Gives, RunsTo}
use Rattle.cs_meaning.proofs.Runs.{Gives-literal, Gives-var, Gives-add, Gives-sub, Gives-mul, RunsTo-decl, RunsTo-return, CsReturns-from, block_done}
use Rattle.cs_meaning.proofs.Fuel.{block_meaning_keeps, with_more}

-- each of these variables has an int
pub record Covers (vars : List ℕ) (σ : State) : Type 0 where
  pub value : (v : ℕ) → Contains vars v → (x : ℤ) × (slice_get σ.vars v ≡ Some (Some (Int x)))

operator_gives : (op : BinaryOp) (l r : Expr) (σ : State) (x y : ℤ) → typed.IsArithmetic op → Gives l σ x → Gives r σ y → (z : ℤ) × Gives (expr.Binary op false l r) σ z
operator_gives op l r σ x y typed.add left right = (int_wrap w32 (x +ℤ y), Gives-add l r σ x y left right)
operator_gives op l r σ x y typed.sub left right = (int_wrap w32 (x -ℤ y), Gives-sub l r σ x y left right)
operator_gives op l r σ x y typed.mul left right = (int_wrap w32 (x *ℤ y), Gives-mul l r σ x y left right)

expr_gives : (n : ℕ) (vars : List ℕ) (e : Expr) (σ : State) → typed.IsIntExpr n e → reads.ReadsAssigned vars e → Covers vars σ → (x : ℤ) × Gives e σ x
unfolding hidden-the_row-Expr-0 hidden
expr_gives n vars e σ (typed.literal i fits) (reads.literal l) covers = (i, Gives-literal i σ)
expr_gives n vars e σ (typed.variable v below) (reads.variable v' read) covers =
    let found = covers.value v read in
    (found.0, Gives-var v σ found.0 found.1)
expr_gives n vars e σ (typed.binary op l r is left right) (reads.binary op' checked l' r' left' right') covers =
    let x = expr_gives n vars l σ left left' covers in
    let y = expr_gives n vars r σ right right' covers in
    operator_gives op l r σ x.0 y.0 is x.1 y.1

-- what is assigned after a declaration
Covers-declared : (vars : List ℕ) (σ : State) (v : ℕ) (x : ℤ) → v < length σ.vars → Covers vars σ → Covers (v ∷ vars) (assigned v (Int x) σ)
Covers-declared vars σ v x there covers = record {
  value = λ w held.
      ⊎_elim
      (λ (is : (eqb v w ≡ true) × (v ≡ w)). (x, subst (λ k. slice_get (slice_set σ.vars v (Some (Int x))) k ≡ Some (Some (Int x))) is.1 (slice_get-set_same σ.vars v (Some (Int x)) there)))
      (λ (is : (eqb v w ≡ false) × (v ≢ w)). ⊎_elim
      (λ (same : v ≡ w). absurd (is.1 same))
      (λ (held' : Contains vars w). let found = covers.value w held' in (found.0, slice_get-set_other σ.vars v w (Some (Int x)) is.1 ∙ found.1))
      (Contains-cons_cases v vars w held))
      (eqb_tells v w);
}

stmts_return : (n : ℕ) (vars : List ℕ) (stmts : List Stmt) (σ : State) → typed.AreLoneStmts n stmts → reads.RunsAssigned vars stmts → Covers vars σ → length σ.vars ≡ n → (y : ℤ) × RunsTo stmts σ (length stmts) y
stmts_return n vars stmts σ (typed.last e is) (reads.returns _ _ _ read) covers size =
    let x = expr_gives n vars e σ is read covers in
    (x.0, RunsTo-return e [] σ 0 x.0 x.1)
stmts_return n vars stmts σ (typed.more _ rest (typed.declares v e low below is) others) (reads.declares _ _ _ _ read after) covers size =
    let x = expr_gives n vars e σ is read covers in
    let there : v < length σ.vars = omega arith in
    let run = stmts_return n (v ∷ vars) rest (assigned v (Int x.0) σ) others after (Covers-declared vars σ v x.0 there covers) (length-set σ.vars v (Some (Int x.0)) ∙ size) in
    (run.0, RunsTo-decl v e rest σ (length rest) x.0 run.0 x.1 there run.1)
stmts_return n vars stmts σ (typed.more _ rest (typed.returns e is) others) (reads.returns _ _ _ read) covers size =
    let x = expr_gives n vars e σ is read covers in
    (x.0, RunsTo-return e rest σ (length rest) x.0 x.1)

-- the variables behind the parameters are none
role_local : (r : Role) (k : ℕ) (rest : List ℕ) → r ≢ Param → reads.with_param r k rest ≡ rest
role_local Param k rest other = absurd (other refl)
role_local Local k rest other = refl
role_local SlotVar k rest other = refl
role_local Join k rest other = refl
role_local (Captured maker field) k rest other = refl

locals_assign_none : (k : ℕ) (vs : List Variable) → All typed.IsIntLocal vs → reads.params_from k vs ≡ []
locals_assign_none k [] all = refl
locals_assign_none k (v ∷ vs) all =
    role_local v.role k (reads.params_from (k + 1) vs) ((All-head typed.IsIntLocal v vs all).local)
    ∙ locals_assign_none (k + 1) vs (All-tail typed.IsIntLocal v vs all)

length-first_values : (vs : List Variable) (args : List ℤ) → length (first_values vs args) ≡ length vs
length-first_values [] args = refl
length-first_values (v ∷ vs) args = ap suc (length-first_values vs (args_left v.role args))

-- the parameters are assigned at the start, and have the arguments
params_four : (p q r s : Variable) (rest : List Variable) → p.role ≡ Param → q.role ≡ Param → r.role ≡ Param → s.role ≡ Param →
    reads.params_from 4 rest ≡ [] → reads.params_from 0 (p ∷ q ∷ r ∷ s ∷ rest) ≡ 0 ∷ 1 ∷ 2 ∷ 3 ∷ []
params_four p q r s rest h0 h1 h2 h3 none = rw (h0, h1, h2, h3, none) refl

values_four : (p q r s : Variable) (rest : List Variable) (a b c d : ℤ) → p.role ≡ Param → q.role ≡ Param → r.role ≡ Param → s.role ≡ Param →
    first_values (p ∷ q ∷ r ∷ s ∷ rest) (a ∷ b ∷ c ∷ d ∷ []) ≡ Some (Int a) ∷ Some (Int b) ∷ Some (Int c) ∷ Some (Int d) ∷ first_values rest []
values_four p q r s rest a b c d h0 h1 h2 h3 = rw (h0, h1, h2, h3) refl

four_at : (a b c d : ℤ) (more : List (Option Value)) (v k : ℕ) → k < 4 → slice_index_or (0 ∷ 1 ∷ 2 ∷ 3 ∷ []) k v ≡ v →
    (x : ℤ) × (slice_get (Some (Int a) ∷ Some (Int b) ∷ Some (Int c) ∷ Some (Int d) ∷ more) v ≡ Some (Some (Int x)))
four_at a b c d more v zero below is = (a, rw (← is) refl)
four_at a b c d more v (suc zero) below is = (b, rw (← is) refl)
four_at a b c d more v (suc (suc zero)) below is = (c, rw (← is) refl)
four_at a b c d more v (suc (suc (suc zero))) below is = (d, rw (← is) refl)
four_at a b c d more v (suc (suc (suc (suc k)))) below is = absurd (omega arith)

four_cover : (a b c d : ℤ) (more : List (Option Value)) → Covers (0 ∷ 1 ∷ 2 ∷ 3 ∷ []) (record { vars = Some (Int a) ∷ Some (Int b) ∷ Some (Int c) ∷ Some (Int d) ∷ more })
four_cover a b c d more = record { value = λ v held. four_at a b c d more v held.0 held.1 held.2 }

Covers-initial : (vars : List Variable) (args : List ℤ) → length args ≡ 4 → typed.AreLoneVars vars → Covers (reads.params_from 0 vars) (record { vars = first_values vars args })
Covers-initial (p ∷ q ∷ r ∷ s ∷ rest) (a ∷ b ∷ c ∷ d ∷ []) four is =
    rw (
      params_four p q r s rest is.0.param is.1.param is.2.param is.3.param (locals_assign_none 4 rest is.4),
      values_four p q r s rest a b c d is.0.param is.1.param is.2.param is.3.param,
    )
    (four_cover a b c d (first_values rest []))
Covers-initial (p ∷ q ∷ r ∷ s ∷ rest) (a ∷ b ∷ c ∷ d ∷ e ∷ more) four is = absurd (omega arith)
Covers-initial (p ∷ q ∷ r ∷ s ∷ rest) (a ∷ b ∷ c ∷ []) four is = absurd (omega arith)
Covers-initial (p ∷ q ∷ r ∷ s ∷ rest) (a ∷ b ∷ []) four is = absurd (omega arith)
Covers-initial (p ∷ q ∷ r ∷ s ∷ rest) (a ∷ []) four is = absurd (omega arith)
Covers-initial (p ∷ q ∷ r ∷ s ∷ rest) [] four is = absurd (omega arith)
Covers-initial (p ∷ q ∷ r ∷ []) args four is = absurd is
Covers-initial (p ∷ q ∷ []) args four is = absurd is
Covers-initial (p ∷ []) args four is = absurd is
Covers-initial [] args four is = absurd is

-- called with four ints, a lone body returns an int, with as much fuel as it has statements
pub lone_returns : (body : Body) (args : List ℤ) → length args ≡ 4 → typed.IsLoneTyped body → reads.IsDefinitelyAssigned body →
    (y : ℤ) × RunsTo body.stmts (initial body args) (length body.stmts) y
lone_returns body args four is assigned_all =
    stmts_return (length body.vars) (reads.params_from 0 body.vars) body.stmts (initial body args) is.stmts assigned_all
    (Covers-initial body.vars args four is.vars) (length-first_values body.vars args)

-- and with any more
pub lone_returns_with : (body : Body) (args : List ℤ) → length args ≡ 4 → typed.IsLoneTyped body → reads.IsDefinitelyAssigned body → (fuel : ℕ) → length body.stmts ≤ fuel →
    (y : ℤ) × (end_of (block_meaning body.stmts fuel (initial body args)) ≡ Some (Returns (Some (Int y))))
lone_returns_with body args four is assigned_all fuel enough =
    let run = lone_returns body args four is assigned_all in (
      run.0,
      with_more (block_meaning body.stmts) (block_meaning_keeps body.stmts) (length body.stmts) fuel enough (initial body args) (Returns (Some (Int run.0))) run.1.state run.1.left
          (block_done body.stmts (initial body args) (length body.stmts) run.0 run.1),
    )

-- so what such a run ends in is that `return`
pub ends_so : (stmts : List Stmt) (σ : State) (fuel : ℕ) (y : ℤ) → RunsTo stmts σ fuel y → (o : Option End) (τ : State) (n : ℕ) →
    EndsAs (block_meaning stmts fuel σ) (Ok o) τ n → o ≡ Some (Returns (Some (Int y)))
ends_so stmts σ fuel y run None τ n is = let ran = block_done stmts σ fuel y run in cc
ends_so stmts σ fuel y run (Some e) τ n is = let ran = block_done stmts σ fuel y run in cc

rewritten : (o : Option End) (τ : State) (n : ℕ) (s s' : List Stmt) (f f' : ℕ) (v v' : List (Option Value)) → s ≡ s' → f ≡ f' → v ≡ v' →
    EndsAs (block_meaning s f (record { vars = v })) (Ok o) τ n → EndsAs (block_meaning s' f' (record { vars = v' })) (Ok o) τ n
rewritten o τ n s s' f f' v v' a b c h = subst (λ r. EndsAs r (Ok o) τ n) same h where
  same : block_meaning s f (record { vars = v }) ≡ block_meaning s' f' (record { vars = v' })
  same = cc

-- what a lone body's run of this code hands out is an int that the body returns
pub lone_result : (body : Body) (args : List ℤ) → length args ≡ 4 → typed.IsLoneTyped body → reads.IsDefinitelyAssigned body →
    (stmts : List Stmt) (fuel : ℕ) (vars : List (Option Value)) → stmts ≡ body.stmts → fuel ≡ length body.stmts → vars ≡ first_values body.vars args →
    (o : Option End) (τ : State) (n : ℕ) → EndsAs (block_meaning stmts fuel (record { vars = vars })) (Ok o) τ n →
    (y : ℤ) × (returned_int o ≡ Some y) × CsReturns body args y
lone_result body args four is assigned_all stmts fuel vars same_stmts same_fuel same_vars o τ n ended =
    let run = lone_returns body args four is assigned_all in
    let at_body : EndsAs (block_meaning body.stmts (length body.stmts) (initial body args)) (Ok o) τ n = rewritten o τ n stmts body.stmts fuel (length body.stmts) vars (first_values body.vars args) same_stmts same_fuel same_vars ended in
    (run.0, ap returned_int (ends_so body.stmts (initial body args) (length body.stmts) run.0 run.1 o τ n at_body), CsReturns-from body args (length body.stmts) run.0 run.1)
