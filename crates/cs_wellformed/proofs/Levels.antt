-- The rows, each by how tightly its parts bind.
use Rattle.std.proofs.Common.{◌≡◌, ℕ, ◌+◌, max, ◌||◌, nat_lt, ap, subst, ◌∙◌, arith}
use Rattle.cs_tree.specs.declared.forms.Form.{Form}
use Rattle.cs_tree.specs.declared.forms.Form.TheVariants as form
use Rattle.cs_tree.specs.declared.forms.UnaryOp.TheVariants as unary_op
use Rattle.cs_tree.specs.declared.forms.BinaryOp.TheVariants as binary_op
use Rattle.cs_tree.specs.Bare.{nowhere}
use Rattle.cs_layout.specs.Layout.{form_shown}
use Rattle.cs_wellformed.specs.Standing.{enclosed_levels}
use Rattle.cs_wellformed.specs.WellFormed.{IsForm, this, binary, unary, cast}
use Rattle.cs_wellformed.specs.Rows.{a, sub, minus, int_type, Has, LevelsAreAsMeant}
use Rattle.cs_wellformed.proofs.Shown.{shown_This, shown_Binary, shown_Unary}

is : (f : Form) (h k : ℕ) → IsForm 400 33 f h 0 → h ≡ k → Has k f
is f h k w e = subst (λ n. IsForm 400 33 f n 0) e w

level_this : (form_shown a).level ≡ 14
level_this = ap (λ z. z.level) (shown_This nowhere)

level_sub : (x y : Form) → (form_shown (sub x y)).level ≡ 9
level_sub x y = ap (λ z. z.level) (shown_Binary nowhere binary_op.Sub x y)

level_minus : (x : Form) → (form_shown (minus x)).level ≡ 11
level_minus x = ap (λ z. z.level) (shown_Unary nowhere unary_op.Minus x)

levels_by : (l r l′ r′ h k : ℕ) → l ≡ l′ → r ≡ r′ → max (enclosed_levels (nat_lt l 9) h) (enclosed_levels (nat_lt r 10) k) + 1 ≡ max (enclosed_levels (nat_lt l′ 9) h) (enclosed_levels (nat_lt r′ 10) k) + 1
levels_by l r l′ r′ h k e d =
    ap (λ z. max (enclosed_levels (nat_lt z 9) h) (enclosed_levels (nat_lt r 10) k) + 1) e
    ∙ ap (λ z. max (enclosed_levels (nat_lt l′ 9) h) (enclosed_levels (nat_lt z 10) k) + 1) d

one : Has 1 (sub a a)
one = is (sub a a) _ 1 (binary nowhere binary_op.Sub a a 0 0 0 0 (this nowhere) (this nowhere)) (levels_by (form_shown a).level (form_shown a).level 14 14 0 0 level_this level_this)

to_the_left : Has 2 (sub (sub a a) a)
to_the_left =
    is (sub (sub a a) a) _ 2 (binary nowhere binary_op.Sub (sub a a) a 1 0 0 0 one (this nowhere))
    (levels_by (form_shown (sub a a)).level (form_shown a).level 9 14 1 0 (level_sub a a) level_this)

to_the_right : Has 3 (sub a (sub a a))
to_the_right =
    is (sub a (sub a a)) _ 3 (binary nowhere binary_op.Sub a (sub a a) 0 1 0 0 (this nowhere) one)
    (levels_by (form_shown a).level (form_shown (sub a a)).level 14 9 0 1 level_this (level_sub a a))

minus_one : Has 1 (minus a)
minus_one =
    is (minus a) _ 1 (unary nowhere unary_op.Minus a 0 0 (this nowhere))
    (ap (λ z. enclosed_levels (nat_lt z.level 11 || z.is_minus) 0 + 1) (shown_This nowhere))

minus_two : Has 3 (minus (minus a))
minus_two =
    is (minus (minus a)) _ 3 (unary nowhere unary_op.Minus (minus a) 1 0 minus_one)
    (ap (λ z. enclosed_levels (nat_lt z.level 11 || z.is_minus) 1 + 1) (shown_Unary nowhere unary_op.Minus a))

cast_minus : Has 3 (form.Cast nowhere int_type (minus a))
cast_minus =
    is (form.Cast nowhere int_type (minus a)) _ 3 (cast nowhere int_type (minus a) 1 0 (tt, omega arith) minus_one)
    (ap (λ z. enclosed_levels (nat_lt z.level 12 || z.is_lambda) 1 + 1) (shown_Unary nowhere unary_op.Minus a))

pub rows : LevelsAreAsMeant
rows = ((to_the_left, to_the_right), (minus_two, cast_minus))
