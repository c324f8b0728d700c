-- The tree of a flat body (ECMA-334, clauses 12, 13 and 15): one static method `M` of ints, of which no part has a place.
use Rattle.std.specs.Prelude.{ℕ, suc, ◌-◌, true, false, ℤ, pos, negsuc, List, [], ◌∷◌, ◌++◌, map, Some, None, codes, flat_map, nat_lt, if◌then◌else◌}
use Rattle.std.specs.Fmt.{decimal}
use Rattle.cs_token.specs.declared.lexeme.Suffix.TheVariants.{Plain}
use Rattle.cs_tree.specs.declared.types.Name.{Name}
use Rattle.cs_tree.specs.declared.types.KeywordType.TheVariants.{Int}
use Rattle.cs_tree.specs.declared.types.TypeName.TheVariants.{Keyword}
use Rattle.cs_tree.specs.declared.types.TypeForm.{TypeForm}
use Rattle.cs_tree.specs.declared.types.Way.TheVariants.{Value}
use Rattle.cs_tree.specs.declared.types.Param.{Param}
use Rattle.cs_tree.specs.declared.forms.Literal.TheVariants.{Number}
use Rattle.cs_tree.specs.declared.forms.UnaryOp.TheVariants.{Minus}
use Rattle.cs_tree.specs.declared.forms.BinaryOp.{BinaryOp}
use Rattle.cs_tree.specs.declared.forms.BinaryOp.TheVariants as sign
use Rattle.cs_tree.specs.declared.forms.Form.{Form}
use Rattle.cs_tree.specs.declared.forms.Form.TheVariants as form
use Rattle.cs_tree.specs.declared.forms.Syntax.{Syntax}
use Rattle.cs_tree.specs.declared.forms.Syntax.TheVariants as syntax
use Rattle.cs_tree.specs.declared.forms.Block.{Block}
use Rattle.cs_tree.specs.declared.members.Mods.{Mods}
use Rattle.cs_tree.specs.declared.members.Member.{Member}
use Rattle.cs_tree.specs.declared.members.Member.TheVariants as member
use Rattle.cs_tree.specs.Bare.{nowhere}
use Rattle.cs_body.specs.declared.body.Body.{Body}
use Rattle.cs_body.specs.declared.tree.Literal.TheVariants as literal
use Rattle.cs_body.specs.declared.tree.BinaryOp.{BinaryOp as Op}
use Rattle.cs_body.specs.declared.tree.BinaryOp.TheVariants as op
use Rattle.cs_body.specs.declared.tree.Expr.{Expr}
use Rattle.cs_body.specs.declared.tree.Stmt.{Stmt}
use Rattle.cs_body.specs.declared.tree.Expr.TheOpen.{Expr-F, Stmt-F}
use Rattle.cs_body.specs.declared.tree.Expr.TheFolds.{fold-Expr, fold-Stmt}

-- a parameter is `a` and its number, any other variable `v` and its number among these
abbrev pub name_of : ℕ → List ℕ
name_of var = if nat_lt var 4 then codes "a" ++ decimal var else codes "v" ++ decimal (var - 4)

abbrev pub named : List ℕ → Name
named text = record { spot = nowhere; text = text }

abbrev pub int_form : TypeForm
int_form = record { spot = nowhere; name = Keyword Int; ranks = 0 }

-- an int; a minus stands before the number of one below 0 (12.9.3)
abbrev pub number_form : ℕ → Form
number_form n = form.Literal nowhere (Number n Plain)

abbrev pub int_value : ℤ → Form
int_value (pos n) = number_form n
int_value (negsuc n) = form.Unary nowhere Minus (number_form (suc n))

abbrev pub sign_form : Op → BinaryOp
sign_form op.Add = sign.Add
sign_form op.Sub = sign.Sub
sign_form op.Mul = sign.Mul
sign_form op.Div = sign.Div
sign_form op.Rem = sign.Rem
sign_form op.ShiftLeft = sign.ShiftLeft
sign_form op.ShiftRight = sign.ShiftRight
sign_form op.BitAnd = sign.BitAnd
sign_form op.BitOr = sign.BitOr
sign_form op.BitXor = sign.BitXor
sign_form op.Equal = sign.Equal
sign_form op.Unequal = sign.Unequal
sign_form op.Less = sign.Less
sign_form op.AtMost = sign.AtMost
sign_form op.Greater = sign.Greater
sign_form op.AtLeast = sign.AtLeast

-- an expression; one that stands in no flat form is `this`
abbrev pub form_layer : Expr-F Form (List Syntax) ℕ ℕ → Form
form_layer (Expr-F.Literal (literal.Int n)) = int_value n
form_layer (Expr-F.Var var) = form.Name nowhere (name_of var)
form_layer (Expr-F.Binary o checked left right) = form.Binary nowhere (sign_form o) left right
form_layer _ = form.This nowhere

-- a statement; one that stands in no flat form is none
abbrev pub stmt_layer : Stmt-F Form (List Syntax) ℕ ℕ → List Syntax
stmt_layer (Stmt-F.Decl var value) = syntax.Declare nowhere int_form (named (name_of var)) value ∷ []
stmt_layer (Stmt-F.Return (Some value)) = syntax.Return nowhere (Some value) ∷ []
stmt_layer _ = []

abbrev pub form_of : Expr → Form
form_of = fold-Expr Form (List Syntax) ℕ ℕ form_layer stmt_layer (λ _. 0) (λ _. 0)

abbrev pub syntax_of : Stmt → List Syntax
syntax_of = fold-Stmt Form (List Syntax) ℕ ℕ form_layer stmt_layer (λ _. 0) (λ _. 0)

abbrev pub block : List Syntax → Block
block stmts = record { stmts = stmts; end = nowhere }

-- `static`, and no other modifier
abbrev pub static : Mods
static = record {
  access = None;
  is_static = true;
  is_abstract = false;
  is_sealed = false;
  is_virtual = false;
  is_override = false;
  is_readonly = false;
  is_extern = false;
}

-- a parameter that is passed by value
abbrev pub param : ℕ → Param
param var = record { way = Value; ty = int_form; name = named (name_of var) }

abbrev pub method : List Syntax → Member
method stmts = member.Method nowhere None static (Some int_form) None (named (codes "M")) (map param (0 ∷ 1 ∷ 2 ∷ 3 ∷ [])) (Some (block stmts))

-- a lone body's method
abbrev pub member_of : Body → Member
member_of body = method (flat_map syntax_of body.stmts)
