-- Expressions within a number of levels are exact.
use Rattle.std.proofs.Common.{ℕ, zero, suc, false, [], ◌∷◌, refl}
use Rattle.cs_token.specs.Placed.{Placed as Token}
use Rattle.cs_tree.specs.declared.forms.Block.{Block}
use Rattle.cs_productions.specs.declared.values.Part.{Part}
use Rattle.cs_productions.specs.declared.values.Part.TheVariants as part
use Rattle.cs_grammar.specs.Grammar.{Grammar}
use Rattle.cs_grammar.specs.Exact.{Exact}
use Rattle.cs_grammar.proofs.Basics.{exact_gives, exact_one, wider}
use Rattle.cs_grammar.proofs.Bind.{then}
use Rattle.cs_productions.specs.Kinds.{name, global, brace}
use Rattle.cs_productions.specs.Tokens.{kind}
use Rattle.cs_productions.specs.Inner.{Inner}
use Rattle.cs_productions.specs.Primaries.{global_leaf}
use Rattle.cs_productions.specs.Levels.{forms_at, at, name_alone, lowest, below, within}
use Rattle.cs_productions.proofs.Follow.{kinds_of, follow_of, AreExact}
use Rattle.cs_productions.proofs.ExactTokens.{sample, global_sample}
use Rattle.cs_token.specs.declared.lexeme.Lexeme.TheVariants as lexeme
use Rattle.cs_productions.proofs.ExactOperators.{exact_operand, exact_unary, exact_plain_unary, exact_multiplicative, exact_additive, exact_shift, exact_relational, exact_equality, exact_and, exact_exclusive_or, exact_inclusive_or, exact_conditional_and, exact_conditional, exact_lead}

pub exact_forms_at : {inner : Inner} (n : ℕ) (p : Part) → AreExact inner → Exact kind (forms_at n inner p) (kinds_of p) (follow_of p) false
exact_forms_at n part.Operand x = exact_operand n x
exact_forms_at n part.Unary x = exact_unary n x
exact_forms_at n part.Multiplicative x = wider refl refl (then (exact_unary n x) refl (λ a. exact_multiplicative n a x))
exact_forms_at n part.Additive x = wider refl refl (then (exact_unary n x) refl (λ a. exact_additive n a x))
exact_forms_at n part.Shift x = wider refl refl (then (exact_unary n x) refl (λ a. exact_shift n a x))
exact_forms_at n part.Relational x = wider refl refl (then (exact_unary n x) refl (λ a. exact_relational n a x))
exact_forms_at n part.Equality x = wider refl refl (then (exact_unary n x) refl (λ a. exact_equality n a x))
exact_forms_at n part.And x = wider refl refl (then (exact_unary n x) refl (λ a. exact_and n a x))
exact_forms_at n part.ExclusiveOr x = wider refl refl (then (exact_unary n x) refl (λ a. exact_exclusive_or n a x))
exact_forms_at n part.InclusiveOr x = wider refl refl (then (exact_unary n x) refl (λ a. exact_inclusive_or n a x))
exact_forms_at n part.ConditionalAnd x = wider refl refl (then (exact_unary n x) refl (λ a. exact_conditional_and n a x))
exact_forms_at n part.Whole x = wider refl refl (then (exact_unary n x) refl (λ a. exact_conditional n a x))
exact_forms_at n part.Plain x = wider refl refl (then (exact_plain_unary n x) refl (λ a. exact_conditional n a x))

pub exact_at : {inner : Inner} (n : ℕ) → AreExact inner → AreExact (at n inner)
exact_at n x = record { forms = λ p. exact_forms_at n p x; lead = exact_lead n x; block = x.block }

exact_name_alone : Exact kind name_alone (name ∷ []) [] false
exact_name_alone = exact_one (name ∷ []) global_leaf (sample (lexeme.Name [])) refl

exact_alone : (p : Part) → Exact kind name_alone (kinds_of p) (follow_of p) false
exact_alone part.Operand = wider refl refl exact_name_alone
exact_alone part.Unary = wider refl refl exact_name_alone
exact_alone part.Multiplicative = wider refl refl exact_name_alone
exact_alone part.Additive = wider refl refl exact_name_alone
exact_alone part.Shift = wider refl refl exact_name_alone
exact_alone part.Relational = wider refl refl exact_name_alone
exact_alone part.Equality = wider refl refl exact_name_alone
exact_alone part.And = wider refl refl exact_name_alone
exact_alone part.ExclusiveOr = wider refl refl exact_name_alone
exact_alone part.InclusiveOr = wider refl refl exact_name_alone
exact_alone part.ConditionalAnd = wider refl refl exact_name_alone
exact_alone part.Whole = wider refl refl exact_name_alone
exact_alone part.Plain = wider refl refl exact_name_alone

exact_lowest : {block : Grammar Token Block} (blocks ranks : ℕ) → Exact kind block (brace ∷ []) [] false → AreExact (lowest block blocks ranks)
exact_lowest blocks ranks b =
    record {
      forms = exact_alone;
      lead = wider refl refl (then (exact_one (global ∷ []) global_leaf global_sample refl) refl (λ g. exact_gives _));
      block = b;
    }

pub exact_below : {block : Grammar Token Block} (blocks ranks n : ℕ) → Exact kind block (brace ∷ []) [] false → AreExact (below block blocks ranks n)
exact_below blocks ranks zero b = exact_lowest blocks ranks b
exact_below blocks ranks (suc n) b = exact_at n (exact_below blocks ranks n b)

-- the law of the expressions of at most this many levels
pub exact_within : {block : Grammar Token Block} (blocks ranks n : ℕ) → Exact kind block (brace ∷ []) [] false → AreExact (within block blocks ranks n)
exact_within blocks ranks n b = exact_at n (exact_below blocks ranks n b)
