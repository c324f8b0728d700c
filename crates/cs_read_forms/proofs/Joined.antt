-- A production at one level is its two parts one behind the other.
use Rattle.std.proofs.Common.{◌≡◌, ℕ, List, refl, Ok, Err}
use Rattle.cs_token.specs.Placed.{Placed as Token}
use Rattle.cs_productions.specs.declared.values.Measured.{Measured}
use Rattle.cs_productions.specs.declared.values.Part.{Part}
use Rattle.cs_productions.specs.declared.values.Part.TheVariants as part
use Rattle.cs_grammar.specs.Grammar.{Read, gives, bind, and_then}
use Rattle.cs_productions.specs.Inner.{Inner}
use Rattle.cs_productions.specs.Operators.{operand, unary}
use Rattle.cs_productions.specs.Levels.{forms_at}
use Rattle.cs_read_forms.specs.InTwo.{begun, gone_on}

alone : (r : Read Token Measured) → and_then r (λ a mid. (gives a).reads mid) ≡ r
alone (Ok p) = refl
alone (Err e) = refl

pub joined : (p : Part) (n : ℕ) (inner : Inner) (ts : List Token) → (bind (begun p n inner) (gone_on p n inner)).reads ts ≡ (forms_at n inner p).reads ts
joined part.Operand n inner ts = alone ((operand n inner).reads ts)
joined part.Unary n inner ts = alone ((unary n inner).reads ts)
joined part.Multiplicative n inner ts = refl
joined part.Additive n inner ts = refl
joined part.Shift n inner ts = refl
joined part.Relational n inner ts = refl
joined part.Equality n inner ts = refl
joined part.And n inner ts = refl
joined part.ExclusiveOr n inner ts = refl
joined part.InclusiveOr n inner ts = refl
joined part.ConditionalAnd n inner ts = refl
joined part.Whole n inner ts = refl
joined part.Plain n inner ts = refl
