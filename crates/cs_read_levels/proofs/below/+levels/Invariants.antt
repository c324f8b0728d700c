-- A call goes down by the blocks that may still be opened, in a block by the levels that are left, and at the same depth to a
-- function that stands lower.
use Rattle.std.proofs.Common.{◌+◌, ◌*◌}
use Rattle.cs_read_levels.proofs.below.+levels.Given as goal

abbrev pub decreases-form_below : goal.decreases-form_below
decreases-form_below l = 8 * (65536 * l.at.blocks + l.at.left)

abbrev pub decreases-lead_below : goal.decreases-lead_below
decreases-lead_below l = 8 * (65536 * l.at.blocks + l.at.left)

abbrev pub decreases-read_below : goal.decreases-read_below
decreases-read_below l = 8 * (65536 * l.at.blocks + l.at.left) + 1

abbrev pub decreases-form_at-closure : goal.decreases-form_at-closure
decreases-form_at-closure l = 8 * (65536 * l.at.blocks + l.at.left) + 2

abbrev pub decreases-lead_at-closure : goal.decreases-lead_at-closure
decreases-lead_at-closure l = 8 * (65536 * l.at.blocks + l.at.left) + 2

abbrev pub decreases-form_at : goal.decreases-form_at
decreases-form_at l = 8 * (65536 * l.at.blocks + l.at.left) + 3

abbrev pub decreases-lead_at : goal.decreases-lead_at
decreases-lead_at l = 8 * (65536 * l.at.blocks + l.at.left) + 3

abbrev pub decreases-block_below : goal.decreases-block_below
decreases-block_below l = 8 * (65536 * l.at.blocks + l.at.left)

abbrev pub decreases-block_at-closure : goal.decreases-block_at-closure
decreases-block_at-closure l = 8 * (65536 * l.at.blocks + l.at.left) + 2

abbrev pub decreases-block_at-whole : goal.decreases-block_at-whole
decreases-block_at-whole l = 8 * (65536 * l.at.blocks + l.at.left) + 4

abbrev pub decreases-block_at : goal.decreases-block_at
decreases-block_at l = 8 * (65536 * l.at.blocks + l.at.left) + 5
