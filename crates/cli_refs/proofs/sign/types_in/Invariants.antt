use Rattle.std.proofs.Common.{◌≡◌, map, take}
use Rattle.class_rows.specs.declared.row.Param.{Param}
use Rattle.cli_refs.proofs.sign.types_in.Given as goal

abbrev pub invariant-loop-param : goal.invariant-loop-param
invariant-loop-param l = l.types.items ≡ map (λ (p : Param). p.ty) (take l.param-index l.params)
