use Rattle.std.proofs.Common.{◌≡◌, take, position}
use Rattle.cil_regions.specs.Tries.{Range, found_at}
use Rattle.cil_regions.proofs.FirstSharing.{AreFirstsUpto}
use Rattle.cil_regions.proofs.FirstTry.{has_range}
use Rattle.cil_regions.proofs.span.firsts.Given as goal

abbrev pub invariant-loop-i : goal.invariant-loop-i
invariant-loop-i l = record {
  known : (q : Range) → found_at l.tries q ≡ position (has_range q) (take l.i l.clauses);
  upto : AreFirstsUpto l.clauses l.i l.firsts.items;
}
