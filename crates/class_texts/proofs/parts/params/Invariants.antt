use Rattle.std.proofs.Common.{◌≡◌, map, take}
use Rattle.class_texts.specs.MemberRows.{param_of}
use Rattle.class_texts.proofs.parts.params.Given as goal

abbrev pub invariant-loop-param : goal.invariant-loop-param
invariant-loop-param l = l.params.items ≡ map (param_of l.types) (take l.param-index l.written)
