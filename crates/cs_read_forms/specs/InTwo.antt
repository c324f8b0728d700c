-- A production at one level in two: what it begins with, and what goes on behind that.
use Rattle.std.specs.Prelude.{ℕ}
use Rattle.cs_token.specs.Placed.{Placed as Token}
use Rattle.cs_productions.specs.declared.values.Measured.{Measured}
use Rattle.cs_productions.specs.declared.values.Part.{Part}
use Rattle.cs_productions.specs.declared.values.Part.TheVariants as part
use Rattle.cs_grammar.specs.Grammar.{Grammar, gives}
use Rattle.cs_productions.specs.Inner.{Inner}
use Rattle.cs_productions.specs.Operators.{operand, unary, plain_unary, multiplicative, additive, shift, relational, equality, and, exclusive_or, inclusive_or, conditional_and, conditional}

abbrev pub begun : Part → ℕ → Inner → Grammar Token Measured
begun part.Operand n inner = operand n inner
begun part.Plain n inner = plain_unary n inner
begun _ n inner = unary n inner

abbrev pub gone_on : Part → ℕ → Inner → Measured → Grammar Token Measured
gone_on part.Operand n inner a = gives a
gone_on part.Unary n inner a = gives a
gone_on part.Multiplicative n inner a = multiplicative n inner a
gone_on part.Additive n inner a = additive n inner a
gone_on part.Shift n inner a = shift n inner a
gone_on part.Relational n inner a = relational n inner a
gone_on part.Equality n inner a = equality n inner a
gone_on part.And n inner a = and n inner a
gone_on part.ExclusiveOr n inner a = exclusive_or n inner a
gone_on part.InclusiveOr n inner a = inclusive_or n inner a
gone_on part.ConditionalAnd n inner a = conditional_and n inner a
gone_on part.Whole n inner a = conditional n inner a
gone_on part.Plain n inner a = conditional n inner a
