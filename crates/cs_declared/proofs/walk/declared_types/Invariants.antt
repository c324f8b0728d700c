use Rattle.std.proofs.Common.{◌≡◌, [], map, drop}
use Rattle.cs_declared.specs.Types.{spaces_grown}
use Rattle.cs_declared.specs.Seen.{seen}
use Rattle.cs_declared.proofs.walk.declared_types.Given as goal

abbrev pub invariant-loop-space : goal.invariant-loop-space
invariant-loop-space l = spaces_grown (map seen l.found.items) (drop l.space-index l.unit.spaces) ≡ spaces_grown [] l.unit.spaces
