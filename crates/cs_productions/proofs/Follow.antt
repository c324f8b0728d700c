-- What values begin with, and at which tokens they would go on.
use Rattle.std.proofs.Common.{ℕ, false, List, [], ◌∷◌, ◌++◌}
use Rattle.cs_productions.specs.declared.values.Part.{Part}
use Rattle.cs_productions.specs.declared.values.Part.TheVariants as part
use Rattle.cs_grammar.specs.Exact.{Exact}
use Rattle.cs_productions.specs.Kinds.{name, global, getter, setter, indexer, number, suffixed, character, text, kw_true, kw_false, kw_null, kw_this, kw_new, kw_default, kw_checked, kw_unchecked, kw_base, kw_ref, kw_out, brace, paren, bracket, dot, colons, question, bang, tilde, minus, keyword_types, operand_kinds, expression_kinds, multiplicative_operators, additive_operators, shift_operators, relational_operators, equality_operators, amp, caret, bar, both, either_one}
use Rattle.cs_productions.specs.Tokens.{kind}
use Rattle.cs_productions.specs.Inner.{Inner}

-- what a type begins with, a parameter, an argument, and an expression that doesn't begin with `global`
abbrev pub type_kinds : List ℕ
type_kinds = keyword_types ++ global ∷ []

abbrev pub param_kinds : List ℕ
param_kinds = kw_ref ∷ kw_out ∷ type_kinds

abbrev pub arg_kinds : List ℕ
arg_kinds = kw_ref ∷ kw_out ∷ expression_kinds

abbrev pub plain_operand_kinds : List ℕ
plain_operand_kinds =
    name ∷ getter ∷ setter ∷ indexer ∷ number ∷ suffixed ∷ character ∷ text ∷ kw_true ∷ kw_false ∷ kw_null ∷ kw_this ∷ paren ∷ kw_new ∷ kw_default ∷
    kw_checked ∷ kw_unchecked ∷ kw_base ∷ []

abbrev pub plain_kinds : List ℕ
plain_kinds = bang ∷ tilde ∷ minus ∷ plain_operand_kinds

-- where more may stand behind a primary expression, an operand, an operator's right side
abbrev pub postfix_follow : List ℕ
postfix_follow = paren ∷ dot ∷ bracket ∷ []

abbrev pub operand_follow : List ℕ
operand_follow = operand_kinds ++ dot ∷ bracket ∷ colons ∷ []

abbrev pub multiplicative_follow : List ℕ
multiplicative_follow = operand_follow ++ multiplicative_operators

abbrev pub additive_follow : List ℕ
additive_follow = multiplicative_follow ++ additive_operators

abbrev pub shift_follow : List ℕ
shift_follow = additive_follow ++ shift_operators

abbrev pub relational_follow : List ℕ
relational_follow = shift_follow ++ relational_operators

abbrev pub equality_follow : List ℕ
equality_follow = relational_follow ++ equality_operators

abbrev pub and_follow : List ℕ
and_follow = equality_follow ++ amp ∷ []

abbrev pub exclusive_or_follow : List ℕ
exclusive_or_follow = and_follow ++ caret ∷ []

abbrev pub inclusive_or_follow : List ℕ
inclusive_or_follow = exclusive_or_follow ++ bar ∷ []

abbrev pub conditional_and_follow : List ℕ
conditional_and_follow = inclusive_or_follow ++ both ∷ []

abbrev pub conditional_or_follow : List ℕ
conditional_or_follow = conditional_and_follow ++ either_one ∷ []

abbrev pub whole_follow : List ℕ
whole_follow = conditional_or_follow ++ question ∷ []

-- what stands behind a unary expression, down to some level
abbrev pub multiplicative_kinds : List ℕ
multiplicative_kinds = multiplicative_operators

abbrev pub additive_kinds : List ℕ
additive_kinds = multiplicative_kinds ++ additive_operators

abbrev pub shift_kinds : List ℕ
shift_kinds = additive_kinds ++ shift_operators

abbrev pub relational_kinds : List ℕ
relational_kinds = shift_kinds ++ relational_operators

abbrev pub equality_kinds : List ℕ
equality_kinds = relational_kinds ++ equality_operators

abbrev pub and_kinds : List ℕ
and_kinds = equality_kinds ++ amp ∷ []

abbrev pub exclusive_or_kinds : List ℕ
exclusive_or_kinds = and_kinds ++ caret ∷ []

abbrev pub inclusive_or_kinds : List ℕ
inclusive_or_kinds = exclusive_or_kinds ++ bar ∷ []

abbrev pub conditional_and_kinds : List ℕ
conditional_and_kinds = inclusive_or_kinds ++ both ∷ []

abbrev pub conditional_or_kinds : List ℕ
conditional_or_kinds = conditional_and_kinds ++ either_one ∷ []

abbrev pub operator_kinds : List ℕ
operator_kinds = conditional_or_kinds ++ question ∷ []

abbrev pub kinds_of : Part → List ℕ
kinds_of part.Operand = operand_kinds
kinds_of part.Plain = plain_kinds
kinds_of _ = expression_kinds

abbrev pub follow_of : Part → List ℕ
follow_of part.Operand = operand_follow
follow_of part.Unary = operand_follow
follow_of part.Multiplicative = multiplicative_follow
follow_of part.Additive = additive_follow
follow_of part.Shift = shift_follow
follow_of part.Relational = relational_follow
follow_of part.Equality = equality_follow
follow_of part.And = and_follow
follow_of part.ExclusiveOr = exclusive_or_follow
follow_of part.InclusiveOr = inclusive_or_follow
follow_of part.ConditionalAnd = conditional_and_follow
follow_of part.Whole = whole_follow
follow_of part.Plain = whole_follow

-- what stands one level lower is exact
pub record AreExact (inner : Inner) : Type 0 where
  pub forms : (p : Part) → Exact kind (inner.forms p) (kinds_of p) (follow_of p) false
  pub lead : Exact kind inner.lead (global ∷ []) whole_follow false
  pub block : Exact kind inner.block (brace ∷ []) [] false
