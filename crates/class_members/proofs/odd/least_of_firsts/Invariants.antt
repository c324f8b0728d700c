use Rattle.class_keys.specs.Least.{IsLeastOf}
use Rattle.class_members.proofs.Odds.{IsClashBefore}
use Rattle.class_members.proofs.odd.least_of_firsts.Given as goal

abbrev pub invariant-loop-m : goal.invariant-loop-m
invariant-loop-m l = IsLeastOf (IsClashBefore l.types l.members l.nameless l.m) l.least
