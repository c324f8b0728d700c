-- Which calls of an outside in memory fail.
use Rattle.std.specs.Prelude.{ℕ, List, Contains}
use Rattle.dc_outside.specs.Outside.{one_more}

-- after this many calls the number of the next one, counted from 1, is among these
abbrev pub IsNextListed : List ℕ → ℕ → Type 0
IsNextListed fails calls = Contains fails (one_more calls)
