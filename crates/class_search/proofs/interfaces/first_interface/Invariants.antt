use Rattle.std.proofs.Common.{◌≡◌, ◌++◌}
use Rattle.class_search.specs.Left.{interfaces_left, told_left, steps}
use Rattle.class_search.proofs.Left.{links_left}
use Rattle.class_search.proofs.interfaces.first_interface.Given as goal

abbrev pub invariant-loop-first : goal.invariant-loop-first
invariant-loop-first l = interfaces_left l.supers l.fn.interfaces ≡ l.own ++ told_left l.supers.spreads (steps l.supers) l.onward

abbrev pub decreases-loop-first : goal.decreases-loop-first
decreases-loop-first l = links_left l.supers.spreads (steps l.supers) l.onward
