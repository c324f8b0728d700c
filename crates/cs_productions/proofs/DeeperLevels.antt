-- Expressions within more levels.
use Rattle.std.proofs.Common.{ℕ, zero, suc, ◌+◌, ◌<◌, ◌≤◌, false, [], ◌∷◌, arith}
use Rattle.cs_token.specs.Placed.{Placed as Token}
use Rattle.cs_tree.specs.declared.forms.Block.{Block}
use Rattle.cs_productions.specs.declared.values.Part.{Part}
use Rattle.cs_productions.specs.declared.values.Part.TheVariants as part
use Rattle.cs_grammar.specs.Grammar.{Grammar}
use Rattle.cs_grammar.specs.Exact.{Exact}
use Rattle.cs_grammar.specs.Whole.{Deeper}
use Rattle.cs_grammar.specs.Levels.{Enters}
use Rattle.cs_grammar.proofs.Deeper.{deeper_then, enters_then}
use Rattle.cs_productions.specs.Kinds.{brace, expression_kinds}
use Rattle.cs_productions.specs.Tokens.{kind}
use Rattle.cs_productions.specs.Inner.{Inner}
use Rattle.cs_productions.specs.Levels.{forms_at, below, within}
use Rattle.cs_productions.proofs.Follow.{AreExact}
use Rattle.cs_productions.proofs.ExactOperators.{exact_multiplicative, exact_additive, exact_shift, exact_relational, exact_equality, exact_and, exact_exclusive_or, exact_inclusive_or, exact_conditional_and, exact_conditional}
use Rattle.cs_productions.proofs.ExactLevels.{exact_below}
use Rattle.cs_productions.proofs.Heights.{within_unary, within_plain_unary, are_below}
use Rattle.cs_productions.proofs.DeeperCalls.{Widens}
use Rattle.cs_productions.proofs.DeeperOperators.{grows_operand, grows_unary, grows_plain_unary, enters_unary, deeper_multiplicative, deeper_additive, deeper_shift, deeper_relational, deeper_equality, deeper_and, deeper_exclusive_or, deeper_inclusive_or, deeper_conditional_and, deeper_conditional, deeper_lead}

pub deeper_forms_at : {n m : ℕ} {inner wide : Inner} (p : Part) → Widens n m inner wide → Deeper (forms_at n inner p) (forms_at m wide p)
deeper_forms_at part.Operand z = (grows_operand z).deeper
deeper_forms_at part.Unary z = (grows_unary z).deeper
deeper_forms_at {m = m} part.Multiplicative z =
    deeper_then (grows_unary z).deeper (within_unary z.below) (λ a p. deeper_multiplicative a z p) (λ a. exact_multiplicative m a z.exact)
deeper_forms_at {m = m} part.Additive z =
    deeper_then (grows_unary z).deeper (within_unary z.below) (λ a p. deeper_additive a z p) (λ a. exact_additive m a z.exact)
deeper_forms_at {m = m} part.Shift z =
    deeper_then (grows_unary z).deeper (within_unary z.below) (λ a p. deeper_shift a z p) (λ a. exact_shift m a z.exact)
deeper_forms_at {m = m} part.Relational z =
    deeper_then (grows_unary z).deeper (within_unary z.below) (λ a p. deeper_relational a z p) (λ a. exact_relational m a z.exact)
deeper_forms_at {m = m} part.Equality z =
    deeper_then (grows_unary z).deeper (within_unary z.below) (λ a p. deeper_equality a z p) (λ a. exact_equality m a z.exact)
deeper_forms_at {m = m} part.And z =
    deeper_then (grows_unary z).deeper (within_unary z.below) (λ a p. deeper_and a z p) (λ a. exact_and m a z.exact)
deeper_forms_at {m = m} part.ExclusiveOr z =
    deeper_then (grows_unary z).deeper (within_unary z.below) (λ a p. deeper_exclusive_or a z p) (λ a. exact_exclusive_or m a z.exact)
deeper_forms_at {m = m} part.InclusiveOr z =
    deeper_then (grows_unary z).deeper (within_unary z.below) (λ a p. deeper_inclusive_or a z p) (λ a. exact_inclusive_or m a z.exact)
deeper_forms_at {m = m} part.ConditionalAnd z =
    deeper_then (grows_unary z).deeper (within_unary z.below) (λ a p. deeper_conditional_and a z p) (λ a. exact_conditional_and m a z.exact)
deeper_forms_at {m = m} part.Whole z =
    deeper_then (grows_unary z).deeper (within_unary z.below) (λ a p. deeper_conditional a z p) (λ a. exact_conditional m a z.exact)
deeper_forms_at {m = m} part.Plain z =
    deeper_then (grows_plain_unary z).deeper (within_plain_unary z.below) (λ a p. deeper_conditional a z p) (λ a. exact_conditional m a z.exact)

-- with a level to give, each token that an expression begins with is read
enters_whole : (inner : Inner) (n : ℕ) → AreExact inner → Enters kind expression_kinds (forms_at (suc n) inner part.Whole)
enters_whole inner n x = enters_then (enters_unary n x) (λ a. exact_conditional (suc n) a x)

-- all levels have the same block and the same brackets
deeper_block : {block : Grammar Token Block} (wider_block : Grammar Token Block) (blocks more m : ℕ) → Deeper block wider_block → Deeper block (below wider_block blocks more m).block
deeper_block wider_block blocks more zero d = d
deeper_block wider_block blocks more (suc m) d = deeper_block wider_block blocks more m d

more_ranks : (wider_block : Grammar Token Block) (blocks limit more m : ℕ) → limit < more → limit < (below wider_block blocks more m).ranks
more_ranks wider_block blocks limit more zero l = l
more_ranks wider_block blocks limit more (suc m) l = more_ranks wider_block blocks limit more m l

some_blocks : (wider_block : Grammar Token Block) (blocks more m : ℕ) → 0 < blocks → 0 < (below wider_block blocks more m).blocks
some_blocks wider_block blocks more zero l = l
some_blocks wider_block blocks more (suc m) l = some_blocks wider_block blocks more m l

-- below as many levels and below two more, or below more than that
pub widens : {block wider_block : Grammar Token Block} (blocks more_blocks limit more n m : ℕ) → n + 2 ≤ m → 0 < limit → limit < more → 0 < more_blocks → Exact kind wider_block (brace ∷ []) [] false → (0 < blocks → Deeper block wider_block) → Widens n m (below block blocks limit n) (below wider_block more_blocks more m)
widens {block = block} {wider_block = wider_block} blocks more_blocks limit more n zero l some r k b d = absurd (omega arith)
widens {block = block} {wider_block = wider_block} blocks more_blocks limit more n (suc zero) l some r k b d = absurd (omega arith)
widens {block = block} {wider_block = wider_block} blocks more_blocks limit more zero (suc (suc m)) l some r k b d =
    record {
      more = l;
      exact = exact_below more_blocks more (suc (suc m)) b;
      below = are_below block blocks limit zero;
      forms = λ s p. absurd (omega arith);
      lead = λ s. absurd (omega arith);
      block = λ may. deeper_block wider_block more_blocks more (suc (suc m)) (d may);
      blocks = some_blocks wider_block more_blocks more (suc (suc m)) k;
      some_ranks = some;
      ranks = more_ranks wider_block more_blocks limit more (suc (suc m)) r;
      enters = enters_whole (below wider_block more_blocks more (suc m)) m (exact_below more_blocks more (suc m) b);
    }
widens {block = block} {wider_block = wider_block} blocks more_blocks limit more (suc n) (suc (suc m)) l some r k b d =
    let lower = widens blocks more_blocks limit more n (suc m) (omega arith) some r k b d in
    record {
      more = l;
      exact = exact_below more_blocks more (suc (suc m)) b;
      below = are_below block blocks limit (suc n);
      forms = λ s p. deeper_forms_at p lower;
      lead = λ s. deeper_lead lower;
      block = lower.block;
      blocks = lower.blocks;
      some_ranks = lower.some_ranks;
      ranks = lower.ranks;
      enters = enters_whole (below wider_block more_blocks more (suc m)) m (exact_below more_blocks more (suc m) b);
    }

-- expressions of at most this many levels, and of two more or more than that
pub deeper_within : {block wider_block : Grammar Token Block} (blocks more_blocks limit more n m : ℕ) (p : Part) → n + 2 ≤ m → 0 < limit → limit < more → 0 < more_blocks → Exact kind wider_block (brace ∷ []) [] false → (0 < blocks → Deeper block wider_block) → Deeper ((within block blocks limit n).forms p) ((within wider_block more_blocks more m).forms p)
deeper_within blocks more_blocks limit more n m p l some r k b d = deeper_forms_at p (widens blocks more_blocks limit more n m l some r k b d)
