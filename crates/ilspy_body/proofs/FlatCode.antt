-- How far the flat form of some code is made.
use Rattle.std.proofs.Common.{◌≡◌, ℕ, ◌+◌, ◌≤◌, ◌<◌, List, [], ◌∷◌, ◌++◌, length, drop, get_or, Some, None, refl, ap, ◌∙◌, sym, arith, append_assoc, add-one, drop-cons}
use Rattle.std.proofs.lemmas.List.{append-nil, drop_all}
use Rattle.cil_lone.specs.Row.{row_of}
use Rattle.cil_lone.specs.Cut.{Placed}
use Rattle.cs_body.specs.declared.tree.Expr.{Expr}
use Rattle.cs_body.specs.declared.tree.Expr.TheVariants as expr
use Rattle.cs_body.specs.declared.tree.Stmt.{Stmt}
use Rattle.cs_body.specs.declared.tree.Stmt.TheVariants as stmt
use Rattle.ilspy_body.proofs.FlatBody.{declared_in-decl, declared_in-return}
use Rattle.ilspy_body.specs.Flat.{declarations, returned, declared_by, flat_from, Pushes}

-- the statements made so far and those of the code from place i on are the flat form; `next` counts the declarations
pub record SoFar (code : List Placed) (i : ℕ) (stmts : List Stmt) (slots : List ℕ) (next : ℕ) : Type 0 where
  pub whole : stmts ++ flat_from next slots (drop i code) ≡ flat_from 4 [] code
  pub counted : next ≡ 4 + declarations stmts
  pub small : next ≤ 4 + i

declarations-append : (xs ys : List Stmt) → declarations (xs ++ ys) ≡ declarations xs + declarations ys
declarations-append [] ys = omega arith
declarations-append (x ∷ xs) ys = omega (arith, declarations-append xs ys)

declarations-returned : (slots : List ℕ) → declarations (returned slots) ≡ 0
declarations-returned [] = refl
declarations-returned (v ∷ below) = omega (arith, declared_in-return (expr.Var v))

-- one more declaration
pub declares_more : (code : List Placed) (i : ℕ) (stmts : List Stmt) (old new : List ℕ) (next : ℕ) (d : Placed) (value : Expr) → SoFar code i stmts old next → i < length code → Pushes (row_of (get_or code i d).1.op) (get_or code i d).1.arg old new (Some value) → SoFar code (i + 1) (stmts ++ stmt.Decl next value ∷ []) (next ∷ new) (next + 1)
declares_more code i stmts old new next d value s lt p =
    let e = get_or code i d in
    let front : drop i code ≡ e ∷ drop (i + 1) code = rw add-one (drop-cons code i d lt) in
    let step : flat_from next old (e ∷ drop (i + 1) code) ≡ stmt.Decl next value ∷ flat_from (next + 1) (next ∷ new) (drop (i + 1) code) =
    ap (λ o. declared_by o next old (λ above. flat_from (next + 1) above (drop (i + 1) code))) p in
    record {
      whole = append_assoc stmts (stmt.Decl next value ∷ []) (flat_from (next + 1) (next ∷ new) (drop (i + 1) code)) ∙ ap (λ l. stmts ++ l) (sym (ap (flat_from next old) front ∙ step)) ∙ s.whole;
      counted = omega (arith, s.counted, declarations-append stmts (stmt.Decl next value ∷ []), declared_in-decl next value);
      small = omega (arith, s.small);
    }

-- the code returns
pub returns_all : (code : List Placed) (i : ℕ) (stmts : List Stmt) (old new : List ℕ) (next : ℕ) (d : Placed) → SoFar code i stmts old next → i < length code → Pushes (row_of (get_or code i d).1.op) (get_or code i d).1.arg old new None → stmts ++ returned new ≡ flat_from 4 [] code
returns_all code i stmts old new next d s lt p =
    let e = get_or code i d in
    let front : drop i code ≡ e ∷ drop (i + 1) code = rw add-one (drop-cons code i d lt) in
    let step : flat_from next old (e ∷ drop (i + 1) code) ≡ returned old =
    ap (λ o. declared_by o next old (λ above. flat_from (next + 1) above (drop (i + 1) code))) p.0 in
    ap (λ l. stmts ++ returned l) p.1 ∙ ap (λ l. stmts ++ l) (sym (ap (flat_from next old) front ∙ step)) ∙ s.whole

-- a return changes no count
pub counted_still : (stmts all : List Stmt) (slots : List ℕ) (next : ℕ) → all ≡ stmts ++ returned slots → next ≡ 4 + declarations stmts → next ≡ 4 + declarations all
counted_still stmts all slots next is counted = omega (arith, counted, ap declarations is, declarations-append stmts (returned slots), declarations-returned slots)

-- the code ends
pub ends_all : (code : List Placed) (i : ℕ) (stmts : List Stmt) (slots : List ℕ) (next : ℕ) → SoFar code i stmts slots next → length code ≤ i → stmts ≡ flat_from 4 [] code
ends_all code i stmts slots next s end =
    sym (append-nil stmts) ∙ ap (λ l. stmts ++ flat_from next slots l) (sym (drop_all i code end)) ∙ s.whole
