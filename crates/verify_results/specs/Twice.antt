-- The upper slot twice.
use Rattle.std.specs.Prelude.{List, [], ◌∷◌}
use Rattle.verify_slots.specs.declared.slot.Slot.{Slot}

abbrev pub twice : List Slot → List Slot
twice [] = []
twice (x ∷ below) = x ∷ x ∷ []
