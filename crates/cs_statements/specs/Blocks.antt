-- Blocks (ECMA-334, 13.3) within a number of blocks: each that is open in another takes one. A statement that can't do without a block
-- is too deep where there is no room for one.
use Rattle.std.specs.Prelude.{ℕ, zero, suc, true, List, [], ◌∷◌, ◌++◌, nat_lt}
use Rattle.cs_token.specs.Placed.{Placed as Token}
use Rattle.cs_tree.specs.declared.types.Spot.{Spot}
use Rattle.cs_tree.specs.declared.forms.Block.{Block}
use Rattle.cs_tree.specs.declared.forms.Syntax.{Syntax}
use Rattle.cs_grammar.specs.Grammar.{Grammar, gives, ◌>>=◌, either, guarded, turns}
use Rattle.cs_productions.specs.Kinds.{global, brace, unbrace, keyword_types, kw_switch}
use Rattle.cs_productions.specs.Tokens.{kind, sign, place}
use Rattle.cs_productions.specs.Inner.{Inner}
use Rattle.cs_productions.specs.Levels.{below}
use Rattle.cs_statements.specs.Kinds.{name_kinds, jump_kinds, block_kinds, statement_kinds}
use Rattle.cs_statements.specs.Jumps.{jump}
use Rattle.cs_statements.specs.Actions.{keyword_declared, global_statement, named_statement, primary_act}
use Rattle.cs_statements.specs.Structured.{structured, of_switch}

-- a statement without a block of its own
abbrev pub simple_statement : ℕ → Inner → Grammar Token Syntax
simple_statement n inner =
    either kind keyword_types (keyword_declared n inner)
    (either kind (global ∷ []) (global_statement n inner)
    (either kind name_kinds (named_statement n inner)
    (either kind jump_kinds (jump n inner) (either kind (kw_switch ∷ []) (of_switch n inner) (primary_act n inner)))))

abbrev pub statement : ℕ → Inner → Grammar Token Syntax
statement n inner = guarded kind (nat_lt 0 inner.blocks) block_kinds (structured n inner) (simple_statement n inner)

-- "{" { stmt } "}"
abbrev pub one_more_statement : Grammar Token Syntax → List Syntax → Grammar Token (List Syntax)
one_more_statement stmt stmts = do s ← stmt; gives (stmts ++ s ∷ [])

abbrev pub block_of : List Syntax → Spot → Block
block_of stmts end = record { stmts = stmts; end = end }

abbrev pub braced : Grammar Token Syntax → Grammar Token Block
braced stmt = do
  _ ← sign brace
  stmts ← turns kind statement_kinds (λ _. true) (one_more_statement stmt) []
  end ← place unbrace
  gives (block_of stmts end)

-- A block with at most this many blocks open, itself among them; with expressions of at most `levels` levels and types of at most
-- `ranks` pairs of brackets. With none there is none: what would ask for it is too deep, and nothing of it is ever read.
abbrev pub empty_block : Grammar Token Block
empty_block = do _ ← sign brace; end ← place unbrace; gives (block_of [] end)

abbrev pub block_at : ℕ → ℕ → ℕ → Grammar Token Block
block_at levels ranks zero = empty_block
block_at levels ranks (suc blocks) = braced (statement levels (below (block_at levels ranks blocks) blocks ranks levels))

-- The depths of a text: an expression has at most so many levels, a type so many pairs of brackets, and so many blocks are open in one
-- another.
abbrev pub text_levels : ℕ
text_levels = 400

abbrev pub text_ranks : ℕ
text_ranks = 33

abbrev pub text_blocks : ℕ
text_blocks = 200

-- a block within the depths of a text
abbrev pub block_in_text : Grammar Token Block
block_in_text = block_at text_levels text_ranks text_blocks
