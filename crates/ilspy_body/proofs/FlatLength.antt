-- A flat form has no more statements than its code has instructions.
use Rattle.std.proofs.Common.{ℕ, ◌+◌, ◌≤◌, List, [], ◌∷◌, length, Option, Some, None, arith}
use Rattle.cil_lone.specs.Row.{row_of}
use Rattle.cil_lone.specs.Cut.{Placed}
use Rattle.cs_body.specs.declared.tree.Expr.{Expr}
use Rattle.cs_body.specs.declared.tree.Stmt.{Stmt}
use Rattle.ilspy_body.specs.Flat.{pushed, returned, declared_by, flat_from}

-- a return is one statement
returned_within : (slots : List ℕ) → length (returned slots) ≤ 1
returned_within [] = omega arith
returned_within (v ∷ below) = omega arith

-- a push is one statement before the rest
push_within : (o : Option (Expr × List ℕ)) (next : ℕ) (slots : List ℕ) (rest : List ℕ → List Stmt) (n : ℕ) → ((above : List ℕ) → length (rest above) ≤ n) → length (declared_by o next slots rest) ≤ n + 1
push_within None next slots rest n h = omega (arith, returned_within slots)
push_within (Some (value, below)) next slots rest n h = omega (arith, h (next ∷ below))

pub flat_within : (code : List Placed) (next : ℕ) (slots : List ℕ) → length (flat_from next slots code) ≤ length code
flat_within [] next slots = omega arith
flat_within (e ∷ code) next slots =
    omega (arith, push_within (pushed (row_of e.1.op) e.1.arg slots) next slots (λ above. flat_from (next + 1) above code) (length code) (λ above. flat_within code (next + 1) above))
