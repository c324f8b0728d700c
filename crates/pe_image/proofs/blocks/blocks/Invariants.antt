use Rattle.std.proofs.Common.{◌-◌, length}
use Rattle.pe_image.proofs.Reaches.{AreBlocksTo}
use Rattle.pe_image.proofs.blocks.blocks.Given as goal

abbrev pub invariant-loop-from : goal.invariant-loop-from
invariant-loop-from l = AreBlocksTo l.sections l.width l.from l.blocks.items

abbrev pub decreases-loop-from : goal.decreases-loop-from
decreases-loop-from l = length l.sections - l.from
