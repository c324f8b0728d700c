-- Inner facts: the numbers that a row leads to, as a list.
use Rattle.std.specs.Prelude.{ℕ, List, [], ◌∷◌, ◌++◌, map, min, Option, Some, None}
use Rattle.dc_base.specs.declared.failure.Or.{Or}
use Rattle.dc_base.specs.declared.failure.Or.TheVariants.{NoMemory, Fault}
use Rattle.dc_base.specs.declared.names.TypeId.{TypeId}
use Rattle.class_rows.specs.declared.row.TypeRow.{TypeRow}

abbrev pub number_of : Option TypeId → List ℕ
number_of None = []
number_of (Some t) = t.0 ∷ []

-- the base, if there is one, and the interfaces
abbrev pub numbers_above : TypeRow → List ℕ
numbers_above row = number_of row.base ++ map (λ (i : TypeId). i.0) row.bases

abbrev pub numbers_round : TypeRow → List ℕ
numbers_round row = number_of row.outer

-- a fault at a number as one at a type, and the lesser of two faults
abbrev pub fault_of_type : Or ℕ → Or TypeId
fault_of_type NoMemory = NoMemory
fault_of_type (Fault t) = Fault (record { 0 = t })

abbrev pub lesser_fault : Or ℕ → Or ℕ → Or ℕ
lesser_fault NoMemory b = NoMemory
lesser_fault (Fault a) NoMemory = NoMemory
lesser_fault (Fault a) (Fault b) = Fault (min a b)
