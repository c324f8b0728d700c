-- How many pairs of brackets a type may have, and how many blocks may be opened, is the same at each level.
use Rattle.std.proofs.Common.{◌≡◌, ℕ, zero, suc, refl}
use Rattle.cs_grammar.specs.Grammar.{Grammar}
use Rattle.cs_token.specs.Placed.{Placed as Token}
use Rattle.cs_tree.specs.declared.forms.Block.{Block}
use Rattle.cs_productions.specs.Levels.{below}
use Rattle.cs_read_calls.specs.declared.level.Depth.{Depth}
use Rattle.cs_read_calls.specs.Asked.{inner_of}
use Rattle.cs_statements.specs.Blocks.{block_at}

ranks_below : (block : Grammar Token Block) (blocks ranks n : ℕ) → ranks ≡ (below block blocks ranks n).ranks
ranks_below block blocks ranks zero = refl
ranks_below block blocks ranks (suc n) = ranks_below block blocks ranks n

blocks_below : (block : Grammar Token Block) (blocks ranks n : ℕ) → blocks ≡ (below block blocks ranks n).blocks
blocks_below block blocks ranks zero = refl
blocks_below block blocks ranks (suc n) = blocks_below block blocks ranks n

pub same_ranks : (d : Depth) → d.ranks ≡ (inner_of d).ranks
same_ranks d = ranks_below (block_at d.levels d.ranks d.blocks) d.blocks d.ranks d.left

pub same_blocks : (d : Depth) → d.blocks ≡ (inner_of d).blocks
same_blocks d = blocks_below (block_at d.levels d.ranks d.blocks) d.blocks d.ranks d.left
