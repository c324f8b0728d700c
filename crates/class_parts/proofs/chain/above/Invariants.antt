use Rattle.std.proofs.Common.{◌≡◌, ◌++◌, map, take}
use Rattle.dc_base.specs.declared.names.TypeId.{TypeId}
use Rattle.class_parts.specs.Above.{number_of}
use Rattle.class_parts.proofs.chain.above.Given as goal

abbrev pub invariant-loop-interface : goal.invariant-loop-interface
invariant-loop-interface l = l.above.items ≡ number_of l.row.base ++ map (λ (i : TypeId). i.0) (take l.interface-index l.interface-items)
