-- What each part of a flat body is as a tree, and what that tree means.
use Rattle.std.proofs.Common.{◌≡◌, ℕ, List, [], ◌∷◌, Some, ℤ, false, sym, ap, ◌∙◌}
use Rattle.cs_token.specs.declared.lexeme.Suffix.TheVariants.{Plain}
use Rattle.cs_tree.specs.declared.types.Name.{Name}
use Rattle.cs_tree.specs.declared.types.Spot.{Spot}
use Rattle.cs_tree.specs.declared.forms.Literal.TheVariants.{Number}
use Rattle.cs_tree.specs.declared.forms.UnaryOp.TheVariants.{Minus}
use Rattle.cs_tree.specs.declared.forms.BinaryOp.{BinaryOp}
use Rattle.cs_tree.specs.declared.forms.Form.{Form}
use Rattle.cs_tree.specs.declared.forms.Form.TheVariants as form
use Rattle.cs_tree.specs.declared.forms.Syntax.{Syntax}
use Rattle.cs_tree.specs.declared.forms.Syntax.TheVariants as syntax
use Rattle.cs_tree.specs.declared.forms.Action.TheOpen.{Form-F, Syntax-F}
use Rattle.cs_tree.specs.declared.forms.Action.TheFolds.{fold-roll-Form, fold-roll-Syntax}
use Rattle.cs_tree.specs.Bare.{nowhere}
use Rattle.cs_body.specs.declared.tree.Literal.TheVariants.{Int}
use Rattle.cs_body.specs.declared.tree.BinaryOp.{BinaryOp as Op}
use Rattle.cs_body.specs.declared.tree.Expr.{Expr}
use Rattle.cs_body.specs.declared.tree.Expr.TheVariants as expr
use Rattle.cs_body.specs.declared.tree.Stmt.TheVariants as stmt
use Rattle.cs_body.specs.declared.tree.Expr.TheOpen.{Expr-F, Stmt-F}
use Rattle.cs_body.specs.declared.tree.Expr.TheFolds.{fold-roll-Expr, fold-roll-Stmt}
use Rattle.ilspy_body.specs.Tree as tree
use Rattle.ilspy_body.specs.Tree.{name_of, named, int_form, int_value, sign_form, form_of, syntax_of}
use Rattle.ilspy_body.specs.Elaborate as meant
use Rattle.ilspy_body.specs.Elaborate.{Part, Meant, Line, Declares, Returns, number_meant, name_meant, minus_meant, operator_meant, meant_of, line_of}

-- the tree of an int, of a variable, and of an operator
pub form_of_int : (n : ℤ) → form_of (expr.Literal (Int n)) ≡ int_value n
form_of_int n = ap form_of (sym (expr.rolls-Literal (Int n))) ∙ fold-roll-Expr Form (List Syntax) ℕ ℕ tree.form_layer tree.stmt_layer (λ _. 0) (λ _. 0) (Expr-F.Literal (Int n))

pub form_of_var : (v : ℕ) → form_of (expr.Var v) ≡ form.Name nowhere (name_of v)
form_of_var v = ap form_of (sym (expr.rolls-Var v)) ∙ fold-roll-Expr Form (List Syntax) ℕ ℕ tree.form_layer tree.stmt_layer (λ _. 0) (λ _. 0) (Expr-F.Var v)

pub form_of_operator : (o : Op) (l r : Expr) → form_of (expr.Binary o false l r) ≡ form.Binary nowhere (sign_form o) (form_of l) (form_of r)
form_of_operator o l r = ap form_of (sym (expr.rolls-Binary o false l r)) ∙ fold-roll-Expr Form (List Syntax) ℕ ℕ tree.form_layer tree.stmt_layer (λ _. 0) (λ _. 0) (Expr-F.Binary o false l r)

-- the tree of a declaration, and of a return
pub syntax_of_decl : (v : ℕ) (e : Expr) → syntax_of (stmt.Decl v e) ≡ syntax.Declare nowhere int_form (named (name_of v)) (form_of e) ∷ []
syntax_of_decl v e = ap syntax_of (sym (stmt.rolls-Decl v e)) ∙ fold-roll-Stmt Form (List Syntax) ℕ ℕ tree.form_layer tree.stmt_layer (λ _. 0) (λ _. 0) (Stmt-F.Decl v e)

pub syntax_of_return : (e : Expr) → syntax_of (stmt.Return (Some e)) ≡ syntax.Return nowhere (Some (form_of e)) ∷ []
syntax_of_return e = ap syntax_of (sym (stmt.rolls-Return (Some e))) ∙ fold-roll-Stmt Form (List Syntax) ℕ ℕ tree.form_layer tree.stmt_layer (λ _. 0) (λ _. 0) (Stmt-F.Return (Some e))

-- what the parts of a tree mean
pub meant_number : (s : Spot) (n : ℕ) → meant_of (form.Literal s (Number n Plain)) ≡ number_meant n
meant_number s n = ap meant_of (sym (form.rolls-Literal s (Number n Plain))) ∙ fold-roll-Form Part Meant Line Part Part Part Part (λ _. tt) meant.form_layer meant.syntax_layer (λ _. tt) (λ _. tt) (λ _. tt) (λ _. tt) (Form-F.Literal s (Number n Plain))

pub meant_name : (s : Spot) (text : List ℕ) → meant_of (form.Name s text) ≡ name_meant text
meant_name s text = ap meant_of (sym (form.rolls-Name s text)) ∙ fold-roll-Form Part Meant Line Part Part Part Part (λ _. tt) meant.form_layer meant.syntax_layer (λ _. tt) (λ _. tt) (λ _. tt) (λ _. tt) (Form-F.Name s text)

pub meant_minus : (s : Spot) (f : Form) → meant_of (form.Unary s Minus f) ≡ minus_meant (meant_of f)
meant_minus s f = ap meant_of (sym (form.rolls-Unary s Minus f)) ∙ fold-roll-Form Part Meant Line Part Part Part Part (λ _. tt) meant.form_layer meant.syntax_layer (λ _. tt) (λ _. tt) (λ _. tt) (λ _. tt) (Form-F.Unary s Minus f)

pub meant_operator : (s : Spot) (o : BinaryOp) (l r : Form) → meant_of (form.Binary s o l r) ≡ operator_meant o (meant_of l) (meant_of r)
meant_operator s o l r = ap meant_of (sym (form.rolls-Binary s o l r)) ∙ fold-roll-Form Part Meant Line Part Part Part Part (λ _. tt) meant.form_layer meant.syntax_layer (λ _. tt) (λ _. tt) (λ _. tt) (λ _. tt) (Form-F.Binary s o l r)

pub line_of_int : (s : Spot) (x : Name) (f : Form) → line_of (syntax.Declare s int_form x f) ≡ Declares x.text (meant_of f)
line_of_int s x f = ap line_of (sym (syntax.rolls-Declare s int_form x f)) ∙ fold-roll-Syntax Part Meant Line Part Part Part Part (λ _. tt) meant.form_layer meant.syntax_layer (λ _. tt) (λ _. tt) (λ _. tt) (λ _. tt) (Syntax-F.Declare s int_form x f)

pub line_of_return : (s : Spot) (f : Form) → line_of (syntax.Return s (Some f)) ≡ Returns (meant_of f)
line_of_return s f = ap line_of (sym (syntax.rolls-Return s (Some f))) ∙ fold-roll-Syntax Part Meant Line Part Part Part Part (λ _. tt) meant.form_layer meant.syntax_layer (λ _. tt) (λ _. tt) (λ _. tt) (λ _. tt) (Syntax-F.Return s (Some f))
