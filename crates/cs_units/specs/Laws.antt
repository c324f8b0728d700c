-- A list of tokens has one answer: a value that it is, or its first token with which no list within the depths goes on. It is one of
-- depth where lists go on with it that have two levels more, a pair of brackets more, a block more and a type more open.
use Rattle.std.specs.Prelude.{ℕ, ◌+◌, ◌<◌}
use Rattle.cs_productions.specs.Laws.{OneAnswer}
use Rattle.cs_units.specs.Declarations.{item_at, unit_at, inside}

abbrev pub HasOneMember : Type 0
HasOneMember =
    (levels ranks blocks nesting : ℕ) → 0 < ranks → 0 < blocks → OneAnswer (item_at (inside levels ranks blocks) nesting) (item_at (inside (levels + 2) (ranks + 1) (blocks + 1)) (nesting + 1))

abbrev pub HasOneUnit : Type 0
HasOneUnit =
    (levels ranks blocks nesting : ℕ) → 0 < ranks → 0 < blocks → OneAnswer (unit_at (inside levels ranks blocks) nesting) (unit_at (inside (levels + 2) (ranks + 1) (blocks + 1)) (nesting + 1))
