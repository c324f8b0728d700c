-- Where a row leads to (ECMA-335 III.1.7.2, III.3 and III.4; the column of control flow in VI.C.2).
use Rattle.std.specs.Prelude.{ℕ, Bool, true, false, List, [], ◌∷◌}
use Rattle.cil_rows.specs.declared.row.Row.{Row}
use Rattle.cil_rows.specs.declared.row.Row.TheVariants.{Branch, BranchIf, BranchCompare, Switch, Leave, Return, Throw, Rethrow, EndFinally}

-- its aims, besides the next instruction, in order: a branch has one, a switch one for each case
abbrev pub aims_of : Row → List ℕ
aims_of (Branch to) = to ∷ []
aims_of (BranchIf truth to) = to ∷ []
aims_of (BranchCompare test unsigned to) = to ∷ []
aims_of (Switch targets) = targets
aims_of (Leave to) = to ∷ []
aims_of _ = []

-- it ends the method, or is behind a throw until a catch takes it
abbrev pub ends_method : Row → Bool
ends_method Return = true
ends_method Throw = true
ends_method Rethrow = true
ends_method _ = false

-- it may go on with the next instruction
abbrev pub goes_on : Row → Bool
goes_on (Branch to) = false
goes_on (Leave to) = false
goes_on Return = false
goes_on Throw = false
goes_on Rethrow = false
goes_on EndFinally = false
goes_on _ = true
