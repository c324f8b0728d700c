use Rattle.std.proofs.Common.{◌≡◌, map, drop}
use Rattle.cs_declared.specs.Types.{all_grown, decl_grown}
use Rattle.cs_declared.specs.Seen.{seen}
use Rattle.cs_declared.proofs.walk.of_types.Given as goal

abbrev pub invariant-loop-decl : goal.invariant-loop-decl
invariant-loop-decl l =
    all_grown (map decl_grown (drop l.decl-index l.types)) l.scope (map seen l.found.items) ≡ all_grown (map decl_grown l.types) l.scope (map seen l.initial.found.items)
