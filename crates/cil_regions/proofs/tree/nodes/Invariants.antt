use Rattle.std.proofs.Common.{◌≡◌, length}
use Rattle.cil_regions.specs.Laid.{AreLinks}
use Rattle.cil_regions.proofs.tree.nodes.Given as goal

abbrev pub invariant-loop-span : goal.invariant-loop-span
invariant-loop-span l = record { many : length l.nodes.items ≡ l.span-index; links : AreLinks l.spans l.nodes.items }
