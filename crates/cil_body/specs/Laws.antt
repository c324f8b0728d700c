-- What follows from the definition of a body.
use Rattle.std.specs.Prelude.{◌≡◌, ℕ, ◌^◌, ◌≤◌, List, length}
use Rattle.cil_body.specs.declared.body.Body.{Body}
use Rattle.cil_instruction.specs.declared.fault.BodyFault.{BodyFault}
use Rattle.cil_body.specs.Body.{IsBody, IsBodyFault}
use Rattle.cil_body.specs.Range.{HasRanges}

-- bytes begin with one body
abbrev pub HasOneBody : Type 0
HasOneBody = (bytes : List ℕ) (limit : ℕ) (body other : Body) → IsBody bytes limit body → IsBody bytes limit other → body ≡ other

-- bytes with a fault begin with no body
abbrev pub BodyHasNoFault : Type 0
BodyHasNoFault = (bytes : List ℕ) (limit : ℕ) (body : Body) (fault : BodyFault) → IsBody bytes limit body → IsBodyFault bytes limit fault → ⊥

-- bytes have one fault
abbrev pub BodyHasOneFault : Type 0
BodyHasOneFault =
    (bytes : List ℕ) (limit : ℕ) (fault other : BodyFault) → IsBodyFault bytes limit fault → IsBodyFault bytes limit other → fault ≡ other

-- the clauses of a body are ranges of its code
abbrev pub BodyHasRanges : Type 0
BodyHasRanges = (bytes : List ℕ) (limit : ℕ) (body : Body) → length bytes ≤ 2 ^ 31 → IsBody bytes limit body → HasRanges body
