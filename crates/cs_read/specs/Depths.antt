-- The depths of a text: an expression has at most 400 levels, a type 33 pairs of brackets, 200 blocks are open in one another, and in a
-- type that stands in no other 200 types. The wider grammar, by which a fault is one of depth, has two levels more, a pair of brackets
-- more, a block more and a type more.
use Rattle.std.specs.Prelude.{ℕ, ◌+◌}
use Rattle.cs_token.specs.Placed.{Placed as Token}
use Rattle.cs_tree.specs.declared.declarations.Unit.{Unit as WholeText}
use Rattle.cs_grammar.specs.Grammar.{Grammar}
use Rattle.cs_statements.specs.Blocks.{text_levels, text_ranks, text_blocks}
use Rattle.cs_units.specs.Declarations.{unit_at, inside}

abbrev pub text_nesting : ℕ
text_nesting = 200

abbrev pub text_grammar : Grammar Token WholeText
text_grammar = unit_at (inside text_levels text_ranks text_blocks) text_nesting

abbrev pub wider_grammar : Grammar Token WholeText
wider_grammar = unit_at (inside (text_levels + 2) (text_ranks + 1) (text_blocks + 1)) (text_nesting + 1)
