-- What a function that reads answers, and the tokens that it leaves.
use Rattle.std.specs.Prelude.{◌≡◌, Bool, true, false, List, Result, Ok, Err}
use Rattle.dc_base.specs.declared.failure.Or.{Or}
use Rattle.dc_base.specs.declared.failure.Or.TheVariants.{NoMemory, Fault as WithFault}
use Rattle.cs_grammar.specs.declared.fault.Fault.{Fault}
use Rattle.cs_grammar.specs.declared.fault.Fault.TheVariants.{Unexpected, TooDeep}
use Rattle.cs_grammar.specs.Grammar.{Read}

abbrev pub is_deep : Fault → Bool
is_deep Unexpected = false
is_deep TooDeep = true

-- the value, and the tokens behind it are left; or the fault, and the tokens from it on are left
abbrev pub Finds : {T A : Type 0} → Read T A → Result A Fault → List T → Type 0
Finds r (Ok a) left = r ≡ Ok (a, left)
Finds r (Err fault) left = r ≡ Err (is_deep fault, left)

-- the same of a function that takes memory, which there may be none of
abbrev pub Reads : {T A : Type 0} → Read T A → Result A (Or Fault) → List T → Type 0
Reads r (Ok a) left = r ≡ Ok (a, left)
Reads r (Err (WithFault fault)) left = r ≡ Err (is_deep fault, left)
Reads r (Err NoMemory) left = Unit {0}
