-- Which body a tree has (ECMA-334 12.2, 12.8.4, 13.6.2, 15.6): names are bound to variables, and literals to ints. What is not of the
-- cut, one static method of ints that declares and returns, has none.
use Rattle.std.specs.Prelude.{ℕ, ◌^◌, Bool, true, false, not, ◌&&◌, ◌||◌, ◌==◌, ℤ, pos, neg_ℤ, List, [], ◌∷◌, ◌++◌, length, map, codes, Option, Some, None, option_map, option_and_then, is_none, nat_lt, nat_le, if◌then◌else◌, position}
use Rattle.std.specs.List.{list_all}
use Rattle.std.specs.Str.{bytes_eq}
use Rattle.cs_token.specs.declared.lexeme.Suffix.TheVariants.{Plain}
use Rattle.cs_tree.specs.declared.types.KeywordType.TheVariants.{Int as IntWord}
use Rattle.cs_tree.specs.declared.types.TypeName.{TypeName}
use Rattle.cs_tree.specs.declared.types.TypeName.TheVariants.{Keyword}
use Rattle.cs_tree.specs.declared.types.TypeForm.{TypeForm}
use Rattle.cs_tree.specs.declared.types.Way.{Way}
use Rattle.cs_tree.specs.declared.types.Way.TheVariants.{Value}
use Rattle.cs_tree.specs.declared.types.Name.{Name}
use Rattle.cs_tree.specs.declared.types.Param.{Param}
use Rattle.cs_tree.specs.declared.forms.Literal.TheVariants.{Number}
use Rattle.cs_tree.specs.declared.forms.UnaryOp.TheVariants.{Minus}
use Rattle.cs_tree.specs.declared.forms.BinaryOp.{BinaryOp as Sign}
use Rattle.cs_tree.specs.declared.forms.BinaryOp.TheVariants as sign
use Rattle.cs_tree.specs.declared.forms.Form.{Form}
use Rattle.cs_tree.specs.declared.forms.Syntax.{Syntax}
use Rattle.cs_tree.specs.declared.forms.Block.{Block}
use Rattle.cs_tree.specs.declared.forms.Action.TheOpen.{Form-F, Syntax-F}
use Rattle.cs_tree.specs.declared.forms.Action.TheFolds.{fold-Form, fold-Syntax}
use Rattle.cs_tree.specs.declared.members.Mods.{Mods}
use Rattle.cs_tree.specs.declared.members.Explicit.{Explicit}
use Rattle.cs_tree.specs.declared.members.Member.{Member}
use Rattle.cs_tree.specs.declared.members.Member.TheVariants as member
use Rattle.cs_tree.specs.BareUnits.{bare_member}
use Rattle.cs_body.specs.declared.body.Body.{Body}
use Rattle.cs_body.specs.declared.body.Role.TheVariants.{Local}
use Rattle.cs_body.specs.declared.tree.Literal.TheVariants.{Int}
use Rattle.cs_body.specs.declared.tree.BinaryOp.{BinaryOp}
use Rattle.cs_body.specs.declared.tree.BinaryOp.TheVariants.{Add, Sub, Mul}
use Rattle.cs_body.specs.declared.tree.Expr.{Expr}
use Rattle.cs_body.specs.declared.tree.Expr.TheVariants as expr
use Rattle.cs_body.specs.declared.tree.Stmt.{Stmt}
use Rattle.cs_body.specs.declared.tree.Stmt.TheVariants as stmt
use Rattle.ilspy_body.specs.Flat.{lone_body}

-- the names in scope, each at the number of its variable
abbrev pub Scope : Type 0
Scope = List (List ℕ)

abbrev pub var_named : Scope → List ℕ → Option ℕ
var_named scope name = position (bytes_eq name) scope

abbrev pub operator_of : Sign → Option BinaryOp
operator_of sign.Add = Some Add
operator_of sign.Sub = Some Sub
operator_of sign.Mul = Some Mul
operator_of _ = None

-- An expression: whether it is a constant, the int that it is behind a minus, and what it means where these names are in scope.
pub record Meant : Type 0 where
  pub constant : Bool
  pub negated : Option Expr
  pub value : Scope → Option Expr

abbrev pub not_meant : Meant
not_meant = record { constant = false; negated = None; value = λ scope. None }

-- a literal that fits an int; 2^31 does behind a minus alone (6.4.5.3)
abbrev pub int_literal : Bool → ℤ → Option Expr
int_literal fits n = if fits then Some (expr.Literal (Int n)) else None

abbrev pub number_meant : ℕ → Meant
number_meant n = record {
  constant = true;
  negated = int_literal (nat_le n (2 ^ 31)) (neg_ℤ (pos n));
  value = λ scope. int_literal (nat_lt n (2 ^ 31)) (pos n);
}

abbrev pub name_meant : List ℕ → Meant
name_meant text = record { constant = false; negated = None; value = λ scope. option_map expr.Var (var_named scope text) }

-- a minus before a number is one literal (12.9.3)
abbrev pub minus_meant : Meant → Meant
minus_meant f = record { constant = f.constant; negated = None; value = λ scope. f.negated }

-- an operator with constants alone would be computed by the compiler (12.23): none is accepted
abbrev pub with_operands : Sign → Bool → Option Expr → Option Expr → Option Expr
with_operands s true left right = None
with_operands s false left right =
    option_and_then (λ op. option_and_then (λ l. option_map (λ r. expr.Binary op false l r) right) left) (operator_of s)

abbrev pub operator_meant : Sign → Meant → Meant → Meant
operator_meant s f g = record {
  constant = false;
  negated = None;
  value = λ scope. with_operands s (f.constant && g.constant) (f.value scope) (g.value scope);
}

-- a statement of ints: a declaration, a return, or any other one
pub data Line : Type 0 where
  Declares : List ℕ → Meant → Line
  Returns : Meant → Line
  Other : Line

-- no more is asked of any other part of a tree
abbrev pub Part : Type 0
Part = Unit {0}

abbrev pub form_layer : Form-F Part Meant Line Part Part Part Part → Meant
form_layer (Form-F.Literal _ (Number n Plain)) = number_meant n
form_layer (Form-F.Name _ text) = name_meant text
form_layer (Form-F.Unary _ Minus operand) = minus_meant operand
form_layer (Form-F.Binary _ s left right) = operator_meant s left right
form_layer _ = not_meant

-- the type `int`
abbrev pub is_int_word : TypeName → Bool
is_int_word (Keyword IntWord) = true
is_int_word _ = false

abbrev pub is_int : TypeForm → Bool
is_int t = is_int_word t.name && t.ranks == 0

abbrev pub syntax_layer : Syntax-F Part Meant Line Part Part Part Part → Line
syntax_layer (Syntax-F.Declare _ ty name value) = if is_int ty then Declares name.text value else Other
syntax_layer (Syntax-F.Return _ (Some value)) = Returns value
syntax_layer _ = Other

abbrev pub meant_of : Form → Meant
meant_of = fold-Form Part Meant Line Part Part Part Part (λ _. tt) form_layer syntax_layer (λ _. tt) (λ _. tt) (λ _. tt) (λ _. tt)

abbrev pub line_of : Syntax → Line
line_of = fold-Syntax Part Meant Line Part Part Part Part (λ _. tt) form_layer syntax_layer (λ _. tt) (λ _. tt) (λ _. tt) (λ _. tt)

-- a statement before others; a declared name is in scope behind its declaration, where no other variable has it (13.6.2)
abbrev pub before_others : Option Stmt → Option (List Stmt) → Option (List Stmt)
before_others (Some s) (Some stmts) = Some (s ∷ stmts)
before_others (Some s) None = None
before_others None stmts = None

abbrev pub declared_once : Option ℕ → Option (List Stmt) → Option (List Stmt)
declared_once None stmts = stmts
declared_once (Some v) stmts = None

abbrev pub stmts_of : Scope → List Line → Option (List Stmt)
stmts_of scope [] = Some []
stmts_of scope (Declares name f ∷ lines) =
    declared_once (var_named scope name)
    (before_others (option_map (stmt.Decl (length scope)) (f.value scope)) (stmts_of (scope ++ name ∷ []) lines))
stmts_of scope (Returns f ∷ lines) =
    before_others (option_map (λ value. stmt.Return (Some value)) (f.value scope)) (stmts_of scope lines)
stmts_of scope (Other ∷ lines) = None

-- no name stands twice
abbrev pub are_distinct : List (List ℕ) → Bool
are_distinct [] = true
are_distinct (x ∷ xs) = is_none (var_named xs x) && are_distinct xs

-- `static`, whoever may name the method
abbrev pub is_static : Mods → Bool
is_static m = m.is_static && not (m.is_abstract || m.is_sealed || m.is_virtual || m.is_override || m.is_readonly || m.is_extern)

abbrev pub returns_int : Option TypeForm → Bool
returns_int None = false
returns_int (Some t) = is_int t

-- an int that is passed by value
abbrev pub is_value : Way → Bool
is_value Value = true
is_value _ = false

abbrev pub is_int_param : Param → Bool
is_int_param p = is_value p.way && is_int p.ty

-- four ints of different names
abbrev pub are_params : List Param → Bool
are_params ps = length ps == 4 && list_all is_int_param ps && are_distinct (map (λ p. p.name.text) ps)

-- the body of a method that implements no interface's by name, and has a block
abbrev pub block_body : List Param → Option Block → Option Body
block_body ps None = None
block_body ps (Some b) = option_map (lone_body Local) (stmts_of (map (λ p. p.name.text) ps) (map line_of b.stmts))

abbrev pub method_body : Mods → Option TypeForm → Option Explicit → Name → List Param → Option Block → Option Body
method_body m result explicit n ps b =
    if is_static m && returns_int result && is_none explicit && bytes_eq n.text (codes "M") && are_params ps then block_body ps b else None

abbrev pub bare_body : Member → Option Body
bare_body (member.Method _ _ m result explicit n ps b) = method_body m result explicit n ps b
bare_body _ = None

-- the body of a method, whose places and note say nothing
abbrev pub body_of : Member → Option Body
body_of m = bare_body (bare_member m)
