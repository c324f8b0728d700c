use Rattle.class_alike.proofs.Params.{IsRest}
use Rattle.class_alike.proofs.alike.are_one_list.Given as goal

abbrev pub invariant-loop-k : goal.invariant-loop-k
invariant-loop-k l = IsRest l.across l.ps l.qs l.k
