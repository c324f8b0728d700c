use Rattle.std.proofs.Common.{take, map}
use Rattle.dc_base.specs.declared.names.TypeId.{TypeId}
use Rattle.class_spread.specs.Spreads.{IsSpreadOut}
use Rattle.class_spread.proofs.spread.gathered.Given as goal

abbrev pub invariant-loop-interface : goal.invariant-loop-interface
invariant-loop-interface l = IsSpreadOut l.types (map (λ (i : TypeId). i.0) (take l.interface-index l.named)) l.seen.keys
