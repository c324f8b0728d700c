-- What is printed of whole texts is read back (ECMA-334, 14.2).
use Rattle.std.specs.Prelude.{◌≡◌, ℕ, ◌+◌, ◌<◌}
use Rattle.cs_tree.specs.declared.declarations.Unit.{Unit as WholeText}
use Rattle.cs_tree.specs.BareUnits.{bare_unit}
use Rattle.cs_units.specs.Declarations.{unit_at, inside}
use Rattle.cs_unit_layout.specs.Units.{unit_laid}
use Rattle.cs_roundtrip_types.specs.Laws.{IsReadBack}
use Rattle.cs_roundtrip_units.specs.Units.{IsWellFormedUnit}

-- the same text but for its places and notes
abbrev pub TextsAreReadBack : Type 0
TextsAreReadBack =
    (levels limit blocks nesting : ℕ) (u : WholeText) → 0 < limit → 0 < blocks → IsWellFormedUnit levels limit blocks nesting u
    → IsReadBack (unit_at (inside levels limit blocks) nesting) (unit_at (inside (levels + 2) (limit + 1) (blocks + 1)) (nesting + 1)) (λ v. bare_unit v ≡ bare_unit u) (unit_laid u)
