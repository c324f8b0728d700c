-- How an expression stands in a printed text: which begin otherwise than they seem to, and how many levels its parentheses are.
use Rattle.std.specs.Prelude.{ℕ, ◌+◌, Bool, true, false, cond, ◌&&◌, ◌||◌, nat_lt}
use Rattle.cs_tree.specs.declared.forms.Form.{Form}
use Rattle.cs_tree.specs.declared.forms.UnaryOp.{UnaryOp}
use Rattle.cs_tree.specs.declared.forms.Action.TheOpen.{Form-F}
use Rattle.cs_tree.specs.declared.forms.Action.TheFolds.{fold-Form}
use Rattle.cs_layout.specs.Words.{unary_level, cast_level}
use Rattle.cs_layout.specs.Layout.{form_shown, is_minus_op}

-- a path without arguments: a name behind it would be one more name of the path (12.8.7)
abbrev pub path_layer : Form-F Bool Bool Bool Bool Bool Bool Bool → Bool
path_layer (Form-F.Global _ _) = true
path_layer _ = false

abbrev pub is_none : {L : Type 0} → L → Bool
is_none _ = false

abbrev pub is_path : Form → Bool
is_path = fold-Form Bool Bool Bool Bool Bool Bool Bool is_none path_layer is_none is_none is_none is_none is_none

-- a lambda, or members and elements of one: no statement begins so (13.7)
abbrev pub lambda_layer : Form-F Bool Bool Bool Bool Bool Bool Bool → Bool
lambda_layer (Form-F.Lambda _ _ _) = true
lambda_layer (Form-F.Member _ object _) = object
lambda_layer (Form-F.Call _ object _ _) = object
lambda_layer (Form-F.Index _ array _) = array
lambda_layer _ = false

abbrev pub begins_lambda : Form → Bool
begins_lambda = fold-Form Bool Bool Bool Bool Bool Bool Bool is_none lambda_layer is_none is_none is_none is_none is_none

-- a pair of parentheses is one level
abbrev pub enclosed_levels : Bool → ℕ → ℕ
enclosed_levels inside h = cond inside (h + 1) h

-- the levels of an expression with so many, where one that binds so tightly is wanted
abbrev pub levels_at_least : ℕ → Form → ℕ → ℕ
levels_at_least level f h = enclosed_levels (nat_lt (form_shown f).level level) h

-- the same behind an operator with one operand, and behind a cast
abbrev pub levels_signed : UnaryOp → Form → ℕ → ℕ
levels_signed o f h = enclosed_levels (nat_lt (form_shown f).level unary_level || is_minus_op o && (form_shown f).is_minus) h

abbrev pub levels_cast : Form → ℕ → ℕ
levels_cast f h = enclosed_levels (nat_lt (form_shown f).level cast_level || (form_shown f).is_lambda) h
