use Rattle.std.proofs.Common.{◌≡◌, drop, map}
use Rattle.cs_meaning.specs.Meaning.{stmt_meaning}
use Rattle.cs_meaning.specs.Ran.{runs}
use Rattle.cs_meaning.proofs.run.run_all.Given as goal

-- what is left of the run comes to what all of it comes to
abbrev pub invariant-loop-stmt : goal.invariant-loop-stmt
invariant-loop-stmt l =
    runs (map stmt_meaning (drop l.stmt-index l.stmts)) l.fuel l.state ≡ runs (map stmt_meaning l.stmts) l.initial.fuel l.initial.state
