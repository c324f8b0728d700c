-- The tree of a flat body is well formed, and has the body.
use Rattle.std.proofs.Common.{◌≡◌, ℕ, ◌+◌, ◌^◌, ◌<◌, ◌≤◌, true, List, [], ◌∷◌, ◌++◌, All, map, length, Some, None, option_map, codes, refl, sym, ap, ◌∙◌, subst, add-one, lit<, arith}
use Rattle.std.specs.Prelude.{if◌then◌else◌}
use Rattle.std.specs.List.{flat_map}
use Rattle.std.proofs.lemmas.Fmt.{decimal_digit}
use Rattle.std.proofs.lemmas.List.Elements.{All-from_recursion}
use Rattle.std.proofs.lemmas.Str.Ascii.{IsAscii-nil}
use Rattle.cs_tree.specs.declared.types.Param.{Param}
use Rattle.cs_tree.specs.declared.forms.Syntax.{Syntax}
use Rattle.cs_tree.specs.declared.forms.Syntax.TheVariants as syntax
use Rattle.cs_tree.specs.Bare.{nowhere, bare_name, bare_form, bare_syntax, bare_block}
use Rattle.cs_wellformed.specs.Words.{IsName, IsType, IsParam}
use Rattle.cs_wellformed.specs.WellFormed.{AreStatements, no_statements, more_statements, declare, «return», some_value, in_braces, IsBlock}
use Rattle.cs_wellformed.proofs.Bared.{bare_Declare, bare_Return}
use Rattle.cs_wellformed.proofs.Parts.{bare_block_is}
use Rattle.cs_roundtrip_members.specs.Members.{IsWellFormedMember}
use Rattle.cs_body.specs.declared.body.Role.{Role}
use Rattle.cs_body.specs.declared.body.Role.TheVariants.{Local}
use Rattle.cs_body.specs.declared.tree.Expr.{Expr}
use Rattle.cs_body.specs.declared.tree.Expr.TheVariants as expr
use Rattle.cs_body.specs.declared.tree.Stmt.{Stmt}
use Rattle.cs_body.specs.declared.tree.Stmt.TheVariants as stmt
use Rattle.ilspy_body.specs.Flat.{lone_body}
use Rattle.ilspy_body.specs.Tree.{name_of, named, int_form, form_of, syntax_of, block, param, member_of}
use Rattle.ilspy_body.specs.Elaborate.{Scope, Meant, Line, Declares, Returns, meant_of, line_of, stmts_of, are_distinct, block_body, body_of}
use Rattle.ilspy_body.proofs.FlatShape.{AreFlat, last, more, variable}
use Rattle.ilspy_body.proofs.Forms.{syntax_of_decl, syntax_of_return, line_of_int, line_of_return}
use Rattle.ilspy_body.proofs.Names.{names, length-names, name_of_is_name, next_is_new, letter_digits_name}
use Rattle.ilspy_body.proofs.Values.{IsMeant, form_stands}

-- `int` is a type
int_type : IsType 33 int_form
int_type = (tt, omega arith)

-- statements are well formed, and mean these with these names in scope
pub record AreMeant (scope : Scope) (ss : List Syntax) (stmts : List Stmt) : Type 0 where
  pub well : AreStatements 400 33 ss 0
  pub meant : stmts_of scope (map line_of (map bare_syntax ss)) ≡ Some stmts

-- a return alone
return_line : (e : Expr) → line_of (bare_syntax (syntax.Return nowhere (Some (form_of e)))) ≡ Returns (meant_of (bare_form (form_of e)))
return_line e = ap line_of (bare_Return nowhere (Some (form_of e))) ∙ line_of_return nowhere (bare_form (form_of e))

return_means : (scope : Scope) (e : Expr) (m : Meant) → m.value scope ≡ Some e → stmts_of scope (Returns m ∷ []) ≡ Some (stmt.Return (Some e) ∷ [])
return_means scope e m h = rw h refl

last_stands : (scope : Scope) (e : Expr) → IsMeant scope (form_of e) e → AreMeant scope (flat_map syntax_of (stmt.Return (Some e) ∷ [])) (stmt.Return (Some e) ∷ [])
last_stands scope e f =
    subst (λ ss. AreMeant scope ss (stmt.Return (Some e) ∷ [])) (sym (ap (λ z. z ++ []) (syntax_of_return e)))
    (record {
      well = more_statements (syntax.Return nowhere (Some (form_of e))) [] 0 0 («return» nowhere (Some (form_of e)) 0 (some_value (form_of e) 0 f.well)) no_statements;
      meant = ap (λ l. stmts_of scope (l ∷ [])) (return_line e) ∙ return_means scope e (meant_of (bare_form (form_of e))) f.meant;
    })

-- a declaration before others
decl_line : (n : ℕ) (e : Expr) → line_of (bare_syntax (syntax.Declare nowhere int_form (named (name_of n)) (form_of e))) ≡ Declares (name_of n) (meant_of (bare_form (form_of e)))
decl_line n e = ap line_of (bare_Declare nowhere int_form (named (name_of n)) (form_of e)) ∙ line_of_int nowhere (bare_name (named (name_of n))) (bare_form (form_of e))

decl_means : (next : ℕ) (m : Meant) (e : Expr) (lines : List Line) (rest : List Stmt) → next < 2 ^ 64 → m.value (names next) ≡ Some e → stmts_of (names (next + 1)) lines ≡ Some rest
    → stmts_of (names next) (Declares (name_of next) m ∷ lines) ≡ Some (stmt.Decl next e ∷ rest)
decl_means next m e lines rest h v r =
    let behind : stmts_of (names next ++ name_of next ∷ []) lines ≡ Some rest = rw add-one at r in
    rw (next_is_new next h, v, behind, length-names next) refl

more_stands : (next : ℕ) (e : Expr) (rest : List Stmt) → next < 2 ^ 64 → IsMeant (names next) (form_of e) e → AreMeant (names (next + 1)) (flat_map syntax_of rest) rest
    → AreMeant (names next) (flat_map syntax_of (stmt.Decl next e ∷ rest)) (stmt.Decl next e ∷ rest)
more_stands next e rest h f r =
    subst (λ ss. AreMeant (names next) ss (stmt.Decl next e ∷ rest)) (sym (ap (λ z. z ++ flat_map syntax_of rest) (syntax_of_decl next e)))
    (record {
      well = more_statements (syntax.Declare nowhere int_form (named (name_of next)) (form_of e)) (flat_map syntax_of rest) 0 0
          (declare nowhere int_form (named (name_of next)) (form_of e) 0 int_type (name_of_is_name next h) f.well) r.well;
      meant = ap (λ l. stmts_of (names next) (l ∷ map line_of (map bare_syntax (flat_map syntax_of rest)))) (decl_line next e)
          ∙ decl_means next (meant_of (bare_form (form_of e))) e (map line_of (map bare_syntax (flat_map syntax_of rest))) rest h f.meant r.meant;
    })

-- the statements of a flat form
pub rest_stands : (next : ℕ) (stmts : List Stmt) → AreFlat next stmts → next + length stmts ≤ 2 ^ 63 → AreMeant (names next) (flat_map syntax_of stmts) stmts
rest_stands _ _ (last next x k) h = last_stands (names next) (expr.Var x) (form_stands (omega arith) (variable x k))
rest_stands _ _ (more next e stmts k others) h = more_stands next e stmts (omega arith) (form_stands (omega arith) k) (rest_stands (next + 1) stmts others (omega arith))

-- the names of the parameters differ
four_differ : are_distinct (names 4) ≡ true
four_differ = rw (decimal_digit 0 (lit< tt), decimal_digit 1 (lit< tt), decimal_digit 2 (lit< tt), decimal_digit 3 (lit< tt)) refl

abbrev pub four : List Param
four = map param (0 ∷ 1 ∷ 2 ∷ 3 ∷ [])

four_params : All (IsParam 33) four
four_params =
    All-from_recursion (IsParam 33) four
    ((int_type, name_of_is_name 0 (omega arith)), ((int_type, name_of_is_name 1 (omega arith)), ((int_type, name_of_is_name 2 (omega arith)), ((int_type, name_of_is_name 3 (omega arith)), tt))))

method_name : IsName (codes "M")
method_name = letter_digits_name 77 [] (omega arith) refl IsAscii-nil refl

-- the tree of a flat body is a well formed member, with a block that is one
pub record MemberStands (role : Role) (stmts : List Stmt) : Type 0 where
  pub params : All (IsParam 33) four
  pub name : IsName (codes "M")
  pub result : IsType 33 int_form
  pub body : IsBlock 400 33 (block (flat_map syntax_of stmts)) 1
  pub well : IsWellFormedMember 400 33 200 (member_of (lone_body role stmts))
  pub elaborated : body_of (member_of (lone_body role stmts)) ≡ Some (lone_body Local stmts)

pub member_stands : (role : Role) (stmts : List Stmt) → AreFlat 4 stmts → length stmts ≤ 2 ^ 32 → MemberStands role stmts
member_stands role stmts flat h =
    let ss = flat_map syntax_of stmts in
    let r = rest_stands 4 stmts flat (omega arith) in
    let braces = in_braces ss nowhere 0 r.well in
    record {
      params = four_params;
      name = method_name;
      result = int_type;
      body = braces;
      well = (int_type, tt, method_name, four_params, (1, braces, omega arith));
      elaborated =
          ap (λ b. if b then block_body four (Some (bare_block (block ss))) else None) four_differ
          ∙ (ap (λ b. block_body four (Some b)) (bare_block_is ss nowhere) ∙ ap (option_map (lone_body Local)) r.meant);
    }
