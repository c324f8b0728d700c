use Rattle.std.proofs.Common.{◌≡◌, ◌+◌, sym, ◌∙◌, arith}
use Rattle.cs_read_levels.proofs.Lower.{forms_lower, leads_lower, block_deeper, no_block}
use Rattle.cs_read_levels.proofs.below.+levels.Goals as goal

pub form_below-returns : goal.form_below-returns
form_below-returns t c =
    let is = c.lower.ensures in
    rw (sym (forms_lower c.args.at c.lower.result is.levels is.left is.blocks is.ranks c.args.part c.args.tokens.now)) c.form_at.ensures

pub lead_below-returns : goal.lead_below-returns
lead_below-returns t c =
    let is = c.lower.ensures in
    rw (sym (leads_lower c.args.at c.lower.result is.levels is.left is.blocks is.ranks c.args.tokens.now)) c.lead_at.ensures

pub block_below-returns-then-at-eq0 : goal.block_below-returns-then-at-eq0
block_below-returns-then-at-eq0 t c = rw (sym (no_block c.args.at c.if-at-eq0.true c.args.tokens.now)) c.empty_block.ensures

pub block_below-block_at-requires : goal.block_below-block_at-requires
block_below-block_at-requires t c =
    let is = c.deeper.ensures in
    (omega (arith, is.blocks, is.within), is.left ∙ sym is.levels)

pub block_below-returns : goal.block_below-returns
block_below-returns t c =
    let is = c.deeper.ensures in
    rw (sym (block_deeper c.args.at c.deeper.result.levels c.deeper.result.ranks (c.deeper.result.blocks + 1) is.levels is.ranks is.blocks c.args.tokens.now)) c.block_at.ensures
