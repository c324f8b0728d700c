-- A body of flat statements is typed, and assigns each variable before it is read.
use Rattle.std.proofs.Common.{◌≡◌, ◌≢◌, ℕ, zero, suc, ◌+◌, ◌<◌, ◌≤◌, List, [], ◌∷◌, length, replicate, Contains, Option, Some, None, false, refl, sym, ap, ◌∙◌, arith, rules, ⊎_elim}
use Rattle.std.proofs.lemmas.Bool.{cases_lt}
use Rattle.std.proofs.lemmas.List.{length-replicate}
use Rattle.std.proofs.lemmas.List.Elements.{All-from_recursion, Contains-append_right}
use Rattle.cil_lone.specs.Row.{row_of}
use Rattle.cil_lone.specs.Cut.{Placed}
use Rattle.cs_body.specs.declared.body.Role.{Role}
use Rattle.cs_body.specs.declared.body.Role.TheVariants.{Param}
use Rattle.cs_body.specs.declared.tree.Literal.TheVariants.{Int}
use Rattle.cs_body.specs.declared.tree.Expr.{Expr}
use Rattle.cs_body.specs.declared.tree.Expr.TheVariants as expr
use Rattle.std.specs.List.{AllByRecursion}
use Rattle.cs_body.specs.declared.tree.Expr.TheOpen.{Stmt-F}
use Rattle.cs_body.specs.declared.tree.Expr.TheFolds.{fold-roll-Stmt}
use Rattle.cs_body.specs.declared.tree.Stmt.{Stmt}
use Rattle.cs_body.specs.declared.tree.Stmt.TheVariants as stmt
use Rattle.cs_meaning.specs.Typed as typed
use Rattle.cs_meaning.specs.Typed.{IsIntExpr, AreLoneStmts, IsLoneTyped, IsIntParam, IsIntLocal, AreLoneVars}
use Rattle.cs_meaning.specs.Assigned as reads
use Rattle.cs_meaning.specs.Assigned.{ReadsAssigned, RunsAssigned, IsDefinitelyAssigned, params_from}
use Rattle.ilspy_body.specs.Flat.{pushed, declared_by, flat_from, declared_in, declarations, int_var, lone_vars, lone_body}
use Rattle.ilspy_body.proofs.FlatShape.{IsFlatForm, number, variable, operator, AreFlat, last, more}

-- a declaration declares one variable
pub declared_in-decl : (v : ℕ) (e : Expr) → declared_in (stmt.Decl v e) ≡ 1
declared_in-decl v e = ap declared_in (sym (stmt.rolls-Decl v e)) ∙ fold-roll-Stmt ℕ ℕ ℕ ℕ (λ _. 0) _ (λ _. 0) (λ _. 0) (Stmt-F.Decl v e)

-- a return declares none
pub declared_in-return : (e : Expr) → declared_in (stmt.Return (Some e)) ≡ 0
declared_in-return e = ap declared_in (sym (stmt.rolls-Return (Some e))) ∙ fold-roll-Stmt ℕ ℕ ℕ ℕ (λ _. 0) _ (λ _. 0) (λ _. 0) (Stmt-F.Return (Some e))

-- an instruction declares one variable at most
declared_within : (o : Option (Expr × List ℕ)) (next : ℕ) (slots : List ℕ) (rest : List ℕ → List Stmt) (n : ℕ) →
    ((above : List ℕ) → declarations (rest above) ≤ n) → declarations (declared_by o next slots rest) ≤ suc n
declared_within (Some (value, below)) next slots rest n all = let one = declared_in-decl next value in omega (arith, all (next ∷ below))
declared_within None next [] rest n all = omega arith
declared_within None next (v ∷ slots) rest n all = let none = declared_in-return (expr.Var v) in omega arith

-- code declares as many variables as it has instructions, at most
pub declarations_within : (code : List Placed) (next : ℕ) (slots : List ℕ) →
    declarations (flat_from next slots code) ≤ length code
declarations_within [] next slots = omega arith
declarations_within (e ∷ code) next slots =
    declared_within (pushed (row_of e.1.op) e.1.arg slots) next slots (λ above. flat_from (next + 1) above code) (length code)
    (λ above. declarations_within code (next + 1) above)

-- a flat form is an int over as many variables
flat_expr : (vars next : ℕ) (e : Expr) → next ≤ vars → IsFlatForm next e → IsIntExpr vars e
flat_expr vars next e le (number n fits) = typed.literal n fits
flat_expr vars next e le (variable x below) = typed.variable x (omega arith)
flat_expr vars next e le (operator op x y is left right) =
    typed.binary op (expr.Var x) (expr.Var y) is (typed.variable x (omega arith)) (typed.variable y (omega arith))

-- flat statements are typed, where there are as many variables as they declare
flat_stmts : (vars next : ℕ) (stmts : List Stmt) → AreFlat next stmts → 4 ≤ next → next + declarations stmts ≤ vars →
    AreLoneStmts vars stmts
flat_stmts vars next stmts (last n x below) four bound = typed.last (expr.Var x) (typed.variable x (omega arith))
flat_stmts vars next stmts (more n value rest form flat) four bound =
    let one = declared_in-decl n value in
    typed.more (stmt.Decl n value) rest (typed.declares n value four (omega arith) (flat_expr vars n value (omega arith) form))
    (flat_stmts vars (n + 1) rest flat (omega arith) (omega arith))

-- locals are no parameters
are_locals : (role : Role) → role ≢ Param → (n : ℕ) → AllByRecursion IsIntLocal (replicate n (int_var role))
are_locals role apart zero = tt
are_locals role apart (suc n) = (record { int = refl; local = apart }, are_locals role apart n)

-- a parameter is an int
is_param : IsIntParam (int_var Param)
is_param = record { int = refl; param = refl }

-- the variables of a lone body are four parameters and locals
lone_vars_are : (role : Role) → role ≢ Param → (n : ℕ) → AreLoneVars (lone_vars role n)
lone_vars_are role apart n = (is_param, is_param, is_param, is_param, All-from_recursion IsIntLocal (replicate n (int_var role)) (are_locals role apart n))

-- how many there are
pub length-lone_vars : (role : Role) (n : ℕ) → length (lone_vars role n) ≡ 4 + n
length-lone_vars role n = let e : length (replicate n (int_var role)) ≡ n = search (rules, length-replicate) in omega arith

-- a body of flat statements is typed
pub flat_typed : (role : Role) → role ≢ Param → (stmts : List Stmt) → AreFlat 4 stmts → IsLoneTyped (lone_body role stmts)
flat_typed role apart stmts flat = record {
  no_owner = refl;
  static_method = refl;
  no_constructor = refl;
  result_int = refl;
  vars = lone_vars_are role apart (declarations stmts);
  stmts =
      let e = length-lone_vars role (declarations stmts) in
      flat_stmts (length (lone_vars role (declarations stmts))) 4 stmts flat (omega arith) (omega arith);
}

-- each variable before the next one is assigned
abbrev AreAssigned : ℕ → List ℕ → Type 0
AreAssigned next assigned = (v : ℕ) → v < next → Contains assigned v

-- a flat form reads assigned variables
flat_reads : (assigned : List ℕ) (next : ℕ) (e : Expr) → AreAssigned next assigned → IsFlatForm next e →
    ReadsAssigned assigned e
flat_reads assigned next e all (number n fits) = reads.literal (Int n)
flat_reads assigned next e all (variable x below) = reads.variable x (all x below)
flat_reads assigned next e all (operator op x y is left right) =
    reads.binary op false (expr.Var x) (expr.Var y) (reads.variable x (all x left)) (reads.variable y (all y right))

-- a declared variable is assigned
one_assigned : (next : ℕ) (assigned : List ℕ) → AreAssigned next assigned → AreAssigned (next + 1) (next ∷ assigned)
one_assigned next assigned all v lt =
    ⊎_elim
    (λ (below : v < next). Contains-append_right (next ∷ []) assigned v (all v below))
    (λ (here : next ≤ v). let e : next ≡ v = omega arith in (0, omega arith, e))
    (cases_lt v next)

-- flat statements assign each variable before they read it
flat_runs : (assigned : List ℕ) (next : ℕ) (stmts : List Stmt) → AreFlat next stmts → AreAssigned next assigned →
    RunsAssigned assigned stmts
flat_runs assigned next stmts (last n x below) all = reads.returns assigned (expr.Var x) [] (reads.variable x (all x below))
flat_runs assigned next stmts (more n value rest form flat) all =
    reads.declares assigned n value rest (flat_reads assigned n value all form)
    (flat_runs (n ∷ assigned) (n + 1) rest flat (one_assigned n assigned all))

-- the parameters are assigned
params_assigned : (rest : List ℕ) → AreAssigned 4 (0 ∷ 1 ∷ 2 ∷ 3 ∷ rest)
params_assigned rest zero lt = (0, omega arith, refl)
params_assigned rest (suc zero) lt = (1, omega arith, refl)
params_assigned rest (suc (suc zero)) lt = (2, omega arith, refl)
params_assigned rest (suc (suc (suc zero))) lt = (3, omega arith, refl)
params_assigned rest (suc (suc (suc (suc v)))) lt = absurd (omega arith)

-- a body of flat statements assigns each variable before it reads it
pub flat_assigned : (role : Role) (stmts : List Stmt) → AreFlat 4 stmts → IsDefinitelyAssigned (lone_body role stmts)
flat_assigned role stmts flat =
    let rest = params_from 4 (replicate (declarations stmts) (int_var role)) in
    flat_runs (0 ∷ 1 ∷ 2 ∷ 3 ∷ rest) 4 stmts flat (params_assigned rest)
