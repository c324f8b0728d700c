-- Expressions within a number of levels: each operator, call, cast, lambda and pair of parentheses on a path is one.
use Rattle.std.specs.Prelude.{ℕ, zero, suc, ◌∷◌, []}
use Rattle.cs_token.specs.Placed.{Placed as Token}
use Rattle.cs_tree.specs.declared.forms.Block.{Block}
use Rattle.cs_productions.specs.declared.values.Measured.{Measured}
use Rattle.cs_productions.specs.declared.values.Lead.{Lead}
use Rattle.cs_productions.specs.declared.values.Part.{Part}
use Rattle.cs_productions.specs.declared.values.Part.TheVariants as part
use Rattle.cs_grammar.specs.Grammar.{Grammar, gives, one, ◌>>=◌}
use Rattle.cs_productions.specs.Kinds.{name, global}
use Rattle.cs_productions.specs.Tokens.{kind}
use Rattle.cs_productions.specs.Inner.{Inner}
use Rattle.cs_productions.specs.Primaries.{global_leaf}
use Rattle.cs_productions.specs.Operators.{form_led, operand, unary, plain_unary, multiplicative, additive, shift, relational, equality, and, exclusive_or, inclusive_or, conditional_and, conditional, lead}

-- with so many levels, over those with one less
abbrev pub forms_at : ℕ → Inner → Part → Grammar Token Measured
forms_at n inner part.Operand = operand n inner
forms_at n inner part.Unary = unary n inner
forms_at n inner part.Multiplicative = do a ← unary n inner; multiplicative n inner a
forms_at n inner part.Additive = do a ← unary n inner; additive n inner a
forms_at n inner part.Shift = do a ← unary n inner; shift n inner a
forms_at n inner part.Relational = do a ← unary n inner; relational n inner a
forms_at n inner part.Equality = do a ← unary n inner; equality n inner a
forms_at n inner part.And = do a ← unary n inner; and n inner a
forms_at n inner part.ExclusiveOr = do a ← unary n inner; exclusive_or n inner a
forms_at n inner part.InclusiveOr = do a ← unary n inner; inclusive_or n inner a
forms_at n inner part.ConditionalAnd = do a ← unary n inner; conditional_and n inner a
forms_at n inner part.Whole = do a ← unary n inner; conditional n inner a
forms_at n inner part.Plain = do a ← plain_unary n inner; conditional n inner a

abbrev pub at : ℕ → Inner → Inner
at n inner = record { forms = forms_at n inner; lead = lead n inner; block = inner.block; blocks = inner.blocks; ranks = inner.ranks }

-- What stands below the last level. Nothing of it is ever read: with no level left, all that would ask for it is too deep.
abbrev pub name_alone : Grammar Token Measured
name_alone = one kind (name ∷ []) global_leaf

abbrev pub led_alone : Grammar Token Lead
led_alone = do g ← one kind (global ∷ []) global_leaf; gives (form_led g)

abbrev pub lowest : Grammar Token Block → ℕ → ℕ → Inner
lowest block blocks ranks = record { forms = λ _. name_alone; lead = led_alone; block = block; blocks = blocks; ranks = ranks }

-- what stands below this many levels
abbrev pub below : Grammar Token Block → ℕ → ℕ → ℕ → Inner
below block blocks ranks zero = lowest block blocks ranks
below block blocks ranks (suc n) = at n (below block blocks ranks n)

-- expressions of at most this many levels, with lambdas of this block, which may hold so many blocks, and types of at most so many
-- pairs of brackets
abbrev pub within : Grammar Token Block → ℕ → ℕ → ℕ → Inner
within block blocks ranks n = at n (below block blocks ranks n)
