use Rattle.std.proofs.Common.{take}
use Rattle.class_bases.specs.Fit.{ParamsAreThere}
use Rattle.class_bases.proofs.member.params_are_there.Given as goal

abbrev pub invariant-loop-param : goal.invariant-loop-param
invariant-loop-param l = ParamsAreThere l.types (take l.param-index l.params)
