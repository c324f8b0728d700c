-- Worked rows: trees whose texts are seen to have so many levels.
use Rattle.std.specs.Prelude.{ℕ}
use Rattle.cs_tree.specs.declared.types.KeywordType.TheVariants.{Int}
use Rattle.cs_tree.specs.declared.types.TypeName.TheVariants as type_name
use Rattle.cs_tree.specs.declared.types.TypeForm.{TypeForm}
use Rattle.cs_tree.specs.declared.forms.Form.{Form}
use Rattle.cs_tree.specs.declared.forms.Form.TheVariants as form
use Rattle.cs_tree.specs.declared.forms.UnaryOp.TheVariants as unary
use Rattle.cs_tree.specs.declared.forms.BinaryOp.TheVariants as binary
use Rattle.cs_tree.specs.Bare.{nowhere}
use Rattle.cs_wellformed.specs.WellFormed.{IsForm}

abbrev pub a : Form
a = form.This nowhere

abbrev pub sub : Form → Form → Form
sub x y = form.Binary nowhere binary.Sub x y

abbrev pub minus : Form → Form
minus x = form.Unary nowhere unary.Minus x

abbrev pub int_type : TypeForm
int_type = record { spot = nowhere; name = type_name.Keyword Int; ranks = 0 }

-- so many levels, and no lambda
abbrev pub Has : ℕ → Form → Type 0
Has h f = IsForm 400 33 f h 0

-- a - a - a has two operators on a path; a - (a - a) has a pair of parentheses too
abbrev pub Differences : Type 0
Differences = Has 2 (sub (sub a a) a) × Has 3 (sub a (sub a a))

-- -(-a) has two operators and a pair of parentheses, and so has (-a) under a cast: (int)(-a)
abbrev pub Minuses : Type 0
Minuses = Has 3 (minus (minus a)) × Has 3 (form.Cast nowhere int_type (minus a))

abbrev pub LevelsAreAsMeant : Type 0
LevelsAreAsMeant = Differences × Minuses
