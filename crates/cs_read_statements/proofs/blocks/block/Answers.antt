use Rattle.std.proofs.Common.{◌≡◌, ℕ, suc, ◌+◌, subst, arith}
use Rattle.cs_grammar.specs.Reads.{Reads}
use Rattle.cs_productions.specs.Levels.{below}
use Rattle.cs_statements.specs.Blocks.{statement, braced, block_at}
use Rattle.cs_read_statements.proofs.blocks.block.Goals as goal

-- the levels that are left are all that an expression has, and a block more is open with the block than in it
pub returns : goal.returns
returns g c =
    let at = c.args.here.now.level.at in
    let more : suc at.blocks ≡ at.blocks + 1 = omega arith in
    subst (λ (n : ℕ). Reads ((block_at at.levels at.ranks n).reads c.args.tokens.now) c.braced.result c.braced.new.tokens) more
    (subst (λ (n : ℕ). Reads ((braced (statement n (below (block_at at.levels at.ranks at.blocks) at.blocks at.ranks n))).reads c.args.tokens.now) c.braced.result c.braced.new.tokens)
    c.requires.start c.braced.ensures)
