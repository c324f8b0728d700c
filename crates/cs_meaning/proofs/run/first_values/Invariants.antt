use Rattle.std.proofs.Common.{◌≡◌, ◌++◌, drop}
use Rattle.cs_meaning.specs.Meaning.{first_values}
use Rattle.cs_meaning.proofs.run.first_values.Given as goal

-- the values so far, and those of the variables that are left
abbrev pub invariant-loop-var : goal.invariant-loop-var
invariant-loop-var l = l.values ++ first_values (drop l.var-index l.vars) l.left ≡ first_values l.vars l.fn.args
