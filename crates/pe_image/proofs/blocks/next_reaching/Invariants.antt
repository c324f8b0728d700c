use Rattle.std.proofs.Common.{◌≤◌, ◌-◌, length}
use Rattle.pe_image.specs.Blocks.{AreShort}
use Rattle.pe_image.proofs.blocks.next_reaching.Given as goal

abbrev pub invariant-loop-block : goal.invariant-loop-block
invariant-loop-block l = record { onwards : l.fn.from ≤ l.block; passed : AreShort l.blocks l.fn.from l.block l.rva l.end }

abbrev pub decreases-loop-block : goal.decreases-loop-block
decreases-loop-block l = length l.blocks - l.block
