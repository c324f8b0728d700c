-- The tree of a flat form is well formed, and means the form.
use Rattle.std.proofs.Common.{◌≡◌, ℕ, suc, ◌+◌, ◌^◌, ◌<◌, ◌≤◌, Bool, true, false, nat_lt, nat_le, max, Some, None, option_map, ℤ, pos, negsuc, FitsSigned, w32, refl, sym, ap, ◌∙◌, subst, arith}
use Rattle.std.proofs.Math.Nat.{max-le}
use Rattle.std.proofs.lemmas.Bool.{lt-ltb, le-leb, cond-true}
use Rattle.cs_token.specs.declared.lexeme.Suffix.TheVariants.{Plain}
use Rattle.cs_tree.specs.declared.forms.Literal.TheVariants.{Number}
use Rattle.cs_tree.specs.declared.forms.UnaryOp.TheVariants.{Minus}
use Rattle.cs_tree.specs.declared.forms.Form.{Form}
use Rattle.cs_tree.specs.declared.forms.Form.TheVariants as form
use Rattle.cs_tree.specs.Bare.{nowhere, bare_form}
use Rattle.cs_layout.specs.Words.{binary_level}
use Rattle.cs_wellformed.specs.Standing.{enclosed_levels, levels_at_least, levels_signed}
use Rattle.cs_wellformed.specs.WellFormed.{IsForm, literal, named, unary, binary, IsValue, value}
use Rattle.cs_wellformed.proofs.Bared.{bare_Literal, bare_Name, bare_Unary, bare_Binary}
use Rattle.cs_body.specs.declared.tree.Literal.TheVariants.{Int}
use Rattle.cs_body.specs.declared.tree.BinaryOp.{BinaryOp}
use Rattle.cs_body.specs.declared.tree.Expr.{Expr}
use Rattle.cs_body.specs.declared.tree.Expr.TheVariants as expr
use Rattle.cs_meaning.specs.Typed.{IsArithmetic, add, sub, mul}
use Rattle.ilspy_body.specs.Tree.{name_of, number_form, sign_form, form_of}
use Rattle.ilspy_body.specs.Elaborate.{Scope, Meant, name_meant, operator_meant, meant_of}
use Rattle.ilspy_body.proofs.FlatShape.{IsFlatForm, number, variable, operator}
use Rattle.ilspy_body.proofs.Forms.{form_of_int, form_of_var, form_of_operator, meant_number, meant_name, meant_minus, meant_operator}
use Rattle.ilspy_body.proofs.Names.{names, name_of_is_name, var_named_of}

-- a tree is well formed within few levels, and means this with these names in scope
pub record Stands (scope : Scope) (f : Form) (e : Expr) : Type 0 where
  pub levels : ℕ
  pub well : IsForm 400 33 f levels 0
  pub few : levels ≤ 2
  pub plain : (meant_of (bare_form f)).constant ≡ false
  pub meant : (meant_of (bare_form f)).value scope ≡ Some e

-- the same of a value, which may be a constant
pub record IsMeant (scope : Scope) (f : Form) (e : Expr) : Type 0 where
  pub well : IsValue 400 33 f 0
  pub meant : (meant_of (bare_form f)).value scope ≡ Some e

-- parentheses are one level
enclosed_few : (b : Bool) (h : ℕ) → enclosed_levels b h ≤ h + 1
enclosed_few true h = omega arith
enclosed_few false h = omega arith

bare_number : (n : ℕ) → bare_form (number_form n) ≡ number_form n
bare_number n = bare_Literal nowhere (Number n Plain)

-- a number that is no less than 0
number_stands : (scope : Scope) (n : ℕ) → n < 2 ^ 31 → IsMeant scope (number_form n) (expr.Literal (Int (pos n)))
number_stands scope n h = record {
  well = value (number_form n) 0 0 (literal nowhere (Number n Plain) (omega arith)) (omega arith);
  meant =
      ap (λ f. (meant_of f).value scope) (bare_number n)
      ∙ (ap (λ (m : Meant). m.value scope) (meant_number nowhere n)
      ∙ cond-true (nat_lt n (2 ^ 31)) (Some (expr.Literal (Int (pos n)))) None (lt-ltb n (2 ^ 31) h));
}

-- a number below 0
below_zero_stands : (scope : Scope) (n : ℕ) → n < 2 ^ 31 → IsMeant scope (form.Unary nowhere Minus (number_form (suc n))) (expr.Literal (Int (negsuc n)))
below_zero_stands scope n h =
    let few : levels_signed Minus (number_form (suc n)) 0 ≤ 0 + 1 = enclosed_few _ 0 in
    record {
      well = value (form.Unary nowhere Minus (number_form (suc n))) (levels_signed Minus (number_form (suc n)) 0 + 1) 0
          (unary nowhere Minus (number_form (suc n)) 0 0 (literal nowhere (Number (suc n) Plain) (omega arith))) (omega (arith, few));
      meant =
          ap (λ f. (meant_of f).value scope) (bare_Unary nowhere Minus (number_form (suc n)) ∙ ap (form.Unary nowhere Minus) (bare_number (suc n)))
          ∙ (ap (λ (m : Meant). m.value scope) (meant_minus nowhere (number_form (suc n)))
          ∙ (ap (λ (m : Meant). m.negated) (meant_number nowhere (suc n))
          ∙ cond-true (nat_le (suc n) (2 ^ 31)) (Some (expr.Literal (Int (negsuc n)))) None (le-leb (suc n) (2 ^ 31) (omega arith))));
    }

int_stands : (scope : Scope) (n : ℤ) → FitsSigned w32 n → IsMeant scope (form_of (expr.Literal (Int n))) (expr.Literal (Int n))
int_stands scope (pos n) h = subst (λ f. IsMeant scope f (expr.Literal (Int (pos n)))) (sym (form_of_int (pos n))) (number_stands scope n h.sfits)
int_stands scope (negsuc n) h = subst (λ f. IsMeant scope f (expr.Literal (Int (negsuc n)))) (sym (form_of_int (negsuc n))) (below_zero_stands scope n h.sfits)

-- a variable
name_stands : (next x : ℕ) → next < 2 ^ 64 → x < next → Stands (names next) (form.Name nowhere (name_of x)) (expr.Var x)
name_stands next x h k =
    let same : meant_of (bare_form (form.Name nowhere (name_of x))) ≡ name_meant (name_of x) = ap meant_of (bare_Name nowhere (name_of x)) ∙ meant_name nowhere (name_of x) in
    record {
      levels = 0;
      well = named nowhere (name_of x) (name_of_is_name x (omega arith));
      few = omega arith;
      plain = ap (λ (m : Meant). m.constant) same;
      meant = ap (λ (m : Meant). m.value (names next)) same ∙ ap (option_map expr.Var) (var_named_of next x h k);
    }

variable_stands : (next x : ℕ) → next < 2 ^ 64 → x < next → Stands (names next) (form_of (expr.Var x)) (expr.Var x)
variable_stands next x h k = subst (λ f. Stands (names next) f (expr.Var x)) (sym (form_of_var x)) (name_stands next x h k)

value_of : {scope : Scope} {f : Form} {e : Expr} → Stands scope f e → IsMeant scope f e
value_of {f = f} s = record { well = value f s.levels 0 s.well (omega (arith, s.few)); meant = s.meant }

-- an operator
operator_means : (o : BinaryOp) (scope : Scope) (f g : Meant) (d e : Expr) → IsArithmetic o → f.constant ≡ false → f.value scope ≡ Some d → g.value scope ≡ Some e
    → (operator_meant (sign_form o) f g).value scope ≡ Some (expr.Binary o false d e)
operator_means _ scope f g d e add c p q = rw (c, p, q) refl
operator_means _ scope f g d e sub c p q = rw (c, p, q) refl
operator_means _ scope f g d e mul c p q = rw (c, p, q) refl

operator_stands : (scope : Scope) (o : BinaryOp) (d e : Expr) → IsArithmetic o → Stands scope (form_of d) d → Stands scope (form_of e) e
    → IsMeant scope (form_of (expr.Binary o false d e)) (expr.Binary o false d e)
operator_stands scope o d e is l r =
    let s = sign_form o in
    let f = form_of d in
    let g = form_of e in
    let left : levels_at_least (binary_level s) f l.levels ≤ l.levels + 1 = enclosed_few _ l.levels in
    let right : levels_at_least (binary_level s + 1) g r.levels ≤ r.levels + 1 = enclosed_few _ r.levels in
    let few : max (levels_at_least (binary_level s) f l.levels) (levels_at_least (binary_level s + 1) g r.levels) ≤ 3 = max-le (omega (arith, left, l.few)) (omega (arith, right, r.few)) in
    let same = ap meant_of (bare_Binary nowhere s f g) ∙ meant_operator nowhere s (bare_form f) (bare_form g) in
    subst (λ t. IsMeant scope t (expr.Binary o false d e)) (sym (form_of_operator o d e))
    (record {
      well = value (form.Binary nowhere s f g) _ 0 (binary nowhere s f g l.levels r.levels 0 0 l.well r.well) (omega (arith, few));
      meant = ap (λ (m : Meant). m.value scope) same ∙ operator_means o scope (meant_of (bare_form f)) (meant_of (bare_form g)) d e is l.plain l.meant r.meant;
    })

-- the tree of a flat form
pub form_stands : {next : ℕ} {e : Expr} → next < 2 ^ 64 → IsFlatForm next e → IsMeant (names next) (form_of e) e
form_stands {next = next} h (number n fits) = int_stands (names next) n fits
form_stands {next = next} h (variable x k) = value_of (variable_stands next x h k)
form_stands {next = next} h (operator o x y is j k) = operator_stands (names next) o (expr.Var x) (expr.Var y) is (variable_stands next x h j) (variable_stands next y h k)
