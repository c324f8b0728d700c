use Rattle.cli_refs.specs.Picks.{ArePicked}
use Rattle.cli_refs.proofs.pick.picked.Given as goal

abbrev pub invariant-loop-m : goal.invariant-loop-m
invariant-loop-m l = ArePicked l.count l.members l.firsts l.m l.picks.items
