-- A list of tokens has one answer: a value that it is, or its first token with which no list within the depths goes on. It is one of
-- depth where lists go on with it that have two levels more, a pair of brackets more and a block more. It takes two levels since the
-- first token in brackets behind a path may be an operator, and the brackets are one too.
use Rattle.std.specs.Prelude.{ℕ, ◌+◌, ◌<◌}
use Rattle.cs_token.specs.Placed.{Placed as Token}
use Rattle.cs_productions.specs.declared.values.Measured.{Measured}
use Rattle.cs_productions.specs.Levels.{below}
use Rattle.cs_productions.specs.Laws.{OneAnswer}
use Rattle.cs_grammar.specs.Grammar.{Grammar}
use Rattle.cs_statements.specs.Jumps.{expression}
use Rattle.cs_statements.specs.Blocks.{text_levels, text_ranks, text_blocks, block_in_text, block_at}

-- expressions of at most so many levels, with types of at most so many pairs of brackets and lambdas in which so many blocks may be open
abbrev pub expression_at : ℕ → ℕ → ℕ → Grammar Token Measured
expression_at levels ranks blocks = expression levels (below (block_at levels ranks blocks) blocks ranks levels)

abbrev pub HasOneExpression : Type 0
HasOneExpression = (levels ranks blocks : ℕ) → 0 < ranks → OneAnswer (expression_at levels ranks blocks) (expression_at (levels + 2) (ranks + 1) (blocks + 1))

abbrev pub HasOneBlock : Type 0
HasOneBlock = (levels ranks blocks : ℕ) → 0 < ranks → 0 < blocks → OneAnswer (block_at levels ranks blocks) (block_at (levels + 2) (ranks + 1) (blocks + 1))

-- the same within the depths of a text
abbrev pub HasOneBlockInText : Type 0
HasOneBlockInText = OneAnswer block_in_text (block_at (text_levels + 2) (text_ranks + 1) (text_blocks + 1))
