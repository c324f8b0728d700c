use Rattle.std.proofs.Common.{◌≡◌, ◌<◌, ℕ, Some}
use Rattle.std.specs.List.{slice_get}
use Rattle.cli_scopes.specs.declared.walk.Mark.TheVariants.{New}
use Rattle.cli_scopes.specs.Walk.{IsBetween}
use Rattle.cli_scopes.proofs.walk.meant_by.Given as goal

abbrev pub invariant-loop-root : goal.invariant-loop-root
invariant-loop-root l = record {
  between : IsBetween l.index l.refs l.marks;
  met : (s : ℕ) → s < l.root → slice_get l.marks s ≡ Some New → ⊥;
}
