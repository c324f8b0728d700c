-- What a body does (ECMA-334, clauses 12 and 13): a fold over one layer of the tree, with meanings in the children's place.
-- Expressions other than int literals, variables and unchecked `+`, `-`, `*`, and statements other than declarations and
-- `return`, are wrong for now.
use Rattle.std.specs.Prelude.{◌≡◌, ℕ, false, List, [], ◌∷◌, map, Option, Some, None, ℤ, ◌+ℤ◌, ◌-ℤ◌, ◌*ℤ◌}
use Rattle.std.specs.Int.{int_wrap}
use mir.Syntax.{w32}
use Rattle.dc_base.specs.declared.names.TypeId.{TypeId}
use Rattle.cs_body.specs.declared.body.Body.{Body}
use Rattle.cs_body.specs.declared.body.Var.{Var as Variable}
use Rattle.cs_body.specs.declared.body.Role.{Role}
use Rattle.cs_body.specs.declared.body.Role.TheVariants.{Param}
use Rattle.cs_body.specs.declared.tree.Literal.{Literal}
use Rattle.cs_body.specs.declared.tree.Literal.TheVariants as literal
use Rattle.cs_body.specs.declared.tree.BinaryOp.{BinaryOp}
use Rattle.cs_body.specs.declared.tree.BinaryOp.TheVariants.{Add, Sub, Mul}
use Rattle.cs_body.specs.declared.tree.Case.{Case}
use Rattle.cs_body.specs.declared.tree.Expr.{Expr}
use Rattle.cs_body.specs.declared.tree.Stmt.{Stmt}
use Rattle.cs_body.specs.declared.tree.Expr.TheOpen.{Expr-F, Stmt-F, Catch-F, Section-F}
use Rattle.cs_body.specs.declared.tree.Expr.TheFolds.{fold-Expr, fold-Stmt}
use Rattle.cs_meaning.specs.declared.state.Value.{Value}
use Rattle.cs_meaning.specs.declared.state.Value.TheVariants.{Int}
use Rattle.cs_meaning.specs.declared.state.State.{State}
use Rattle.cs_meaning.specs.declared.state.End.TheVariants.{Returns, Wrong}
use Rattle.cs_meaning.specs.Ran.{Valued, stops, done, Meaning, end_of, on_value, with_value, valued, read, store, begun, wrong, Part, block}

-- an expression: its value, and the number of the variable where it is one, which can be set
pub record Node : Type 0 where
  pub place : Option ℕ
  pub value : State → Valued

-- a catch clause and a switch section, with the parts of their blocks
pub record Handler : Type 0 where
  pub takes : TypeId
  pub sets : Option ℕ
  pub parts : List Part

pub record Branch : Type 0 where
  pub cases : List Case
  pub parts : List Part

-- the unchecked operators on ints, which keep the low 32 bits of the result (ECMA-334, 12.8.20 and 12.10)
abbrev pub int_result : BinaryOp → ℤ → ℤ → Option Value
int_result Add x y = Some (Int (int_wrap w32 (x +ℤ y)))
int_result Sub x y = Some (Int (int_wrap w32 (x -ℤ y)))
int_result Mul x y = Some (Int (int_wrap w32 (x *ℤ y)))
int_result _ x y = None

abbrev pub computed : BinaryOp → Value → Value → Option Value
computed op (Int x) (Int y) = int_result op x y

-- the operands are evaluated from left to right (ECMA-334, 12.4.1)
abbrev pub binary : BinaryOp → Node → Node → State → Valued
binary op left right σ = on_value (left.value σ) (λ x τ. on_value (right.value τ) (λ y υ. valued (computed op x y) υ))

abbrev pub literal_value : Literal → Option Value
literal_value (literal.Int i) = Some (Int i)
literal_value _ = None

abbrev pub wrong_node : Node
wrong_node = record { place = None; value = λ σ. stops Wrong σ }

-- a variable (ECMA-334, 12.8.4)
abbrev pub read_node : ℕ → Node
read_node var = record { place = Some var; value = read var }

abbrev pub node : Expr-F Node Part Handler Branch → Node
node (Expr-F.Literal l) = record { place = None; value = valued (literal_value l) }
node (Expr-F.Var var) = read_node var
node (Expr-F.Binary op false left right) = record { place = None; value = binary op left right }
node _ = wrong_node

-- a statement that is no label
abbrev pub part_of : Meaning → Part
part_of m = record { label = None; run = begun m }

-- `T v = e;` (ECMA-334, 13.6.2)
abbrev pub declares : ℕ → Node → Meaning
declares var e n σ = with_value (e.value σ) n (λ x τ. store var x τ n)

-- `return e;` and `return;` (ECMA-334, 13.10.5)
abbrev pub returns : Option Node → Meaning
returns None n σ = done (Returns None) σ n
returns (Some e) n σ = with_value (e.value σ) n (λ x τ. done (Returns (Some x)) τ n)

abbrev pub part : Stmt-F Node Part Handler Branch → Part
part (Stmt-F.Decl var e) = part_of (declares var e)
part (Stmt-F.Return e) = part_of (returns e)
part _ = part_of wrong

abbrev pub handler : Catch-F Node Part Handler Branch → Handler
handler c = record { takes = c.class; sets = c.var; parts = c.block }

abbrev pub branch : Section-F Node Part Handler Branch → Branch
branch s = record { cases = s.cases; parts = s.block }

-- what an expression and a statement mean
abbrev pub expr_meaning : Expr → Node
expr_meaning = fold-Expr Node Part Handler Branch node part handler branch

abbrev pub stmt_meaning : Stmt → Part
stmt_meaning = fold-Stmt Node Part Handler Branch node part handler branch

-- what a list of statements in braces means (ECMA-334, 13.3)
abbrev pub block_meaning : List Stmt → Meaning
block_meaning stmts = block (map stmt_meaning stmts)

-- a parameter takes the next argument; every other variable begins unassigned (ECMA-334, 9.2)
abbrev pub first_value : Role → List ℤ → Option Value
first_value Param (a ∷ more) = Some (Int a)
first_value _ _ = None

abbrev pub args_left : Role → List ℤ → List ℤ
args_left Param (a ∷ more) = more
args_left _ args = args

abbrev pub first_values : List Variable → List ℤ → List (Option Value)
first_values [] args = []
first_values (v ∷ vs) args = first_value v.role args ∷ first_values vs (args_left v.role args)

-- the state in which a body begins
abbrev pub initial : Body → List ℤ → State
initial body args = record { vars = first_values body.vars args }

-- called with these arguments, the body returns this int: its run ends so with some fuel
abbrev pub CsReturns : Body → List ℤ → ℤ → Type 0
CsReturns body args v =
    (fuel : ℕ) × (end_of (block_meaning body.stmts fuel (initial body args)) ≡ Some (Returns (Some (Int v))))
