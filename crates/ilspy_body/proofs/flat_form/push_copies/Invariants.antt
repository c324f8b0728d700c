-- So far `_i` copies stand behind what was there.
use Rattle.std.proofs.Common.{◌≡◌, ◌++◌, replicate}
use Rattle.ilspy_body.proofs.flat_form.push_copies.Given as goal

abbrev pub invariant-loop-i : goal.invariant-loop-i
invariant-loop-i l = l.vars.items ≡ l.initial.vars.items ++ replicate l._i l.var
