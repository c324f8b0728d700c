use Rattle.std.proofs.Common.{◌≡◌, ◌≤◌, drop}
use Rattle.cil_lone.proofs.Break.{first_break}
use Rattle.cil_lone.proofs.standalone.balance.Given as goal

abbrev pub invariant-loop-i : goal.invariant-loop-i
invariant-loop-i l =
    record {
      walked : first_break 0 l.code l.end ≡ first_break l.depth (drop l.i l.code) l.end;
      shallow : l.depth ≤ l.i;
    }
