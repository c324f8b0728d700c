use Rattle.pe_image.proofs.Reaches.{AreRunning}
use Rattle.pe_image.proofs.blocks.running.Given as goal

abbrev pub invariant-loop-section : goal.invariant-loop-section
invariant-loop-section l = AreRunning l.sorted l.section-index l.end l.reaches.items
