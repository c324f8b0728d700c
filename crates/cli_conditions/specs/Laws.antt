-- What follows from the definitions.
use Rattle.std.specs.Prelude.{◌≡◌}
use Rattle.cli_conditions.specs.declared.condition.Condition.{Condition}
use Rattle.cli_conditions.specs.Conditions.{number_of}

-- a place in the order is that of one condition
abbrev pub NumbersTell : Type 0
NumbersTell = (c d : Condition) → number_of c ≡ number_of d → c ≡ d
