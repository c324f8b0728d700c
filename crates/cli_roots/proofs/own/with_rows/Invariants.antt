use Rattle.cli_roots.specs.Own.{AreFirstRows}
use Rattle.cli_roots.proofs.own.with_rows.Given as goal

abbrev pub invariant-loop-k : goal.invariant-loop-k
invariant-loop-k l = AreFirstRows l.fn.metadata l.fn.table l.k l.fn.before.items l.found.items
