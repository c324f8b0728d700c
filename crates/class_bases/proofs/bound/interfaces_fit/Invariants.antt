use Rattle.std.proofs.Common.{take}
use Rattle.class_bases.specs.Fit.{InterfacesFit}
use Rattle.class_bases.proofs.bound.interfaces_fit.Given as goal

abbrev pub invariant-loop-interface : goal.invariant-loop-interface
invariant-loop-interface l = InterfacesFit l.types (take l.interface-index l.named)
