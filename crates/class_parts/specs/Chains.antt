-- The first type of which a chain doesn't end.
use Rattle.std.specs.Prelude.{ℕ, ◌<◌, List}
use Rattle.dc_base.specs.declared.names.TypeId.{TypeId}
use Rattle.class_chains.specs.Ends.{Ends}
use Rattle.class_rows.specs.declared.row.TypeRow.{TypeRow}
use Rattle.class_rows.specs.Types.{IsAbove, IsOuter}

-- both its chain of bases and interfaces and its chain of outer types end
abbrev pub BothEnd : List TypeRow → ℕ → Type 0
BothEnd types t = Ends (IsAbove types) t × Ends (IsOuter types) t

-- the least type of which not both end
pub record IsFirstCycle (types : List TypeRow) (t : TypeId) : Type 0 where
  pub cycle : BothEnd types t.0 → ⊥
  pub before : (s : ℕ) → s < t.0 → BothEnd types s
