-- What a call says of a step, and what is to be known of a step.
use Rattle.std.specs.Prelude.{◌≡◌, ◌⊎◌, Result, Ok, Err}
use Rattle.dc_base.specs.declared.failure.Or.{Or}
use Rattle.dc_base.specs.declared.failure.Or.TheVariants.{NoMemory, Fault}
use Rattle.dc_causes.specs.Step.{Step}

-- what the step reads
abbrev pub ReadBy : {A F : Type 0} → Step A F → A → Type 0
ReadBy Is a = Is (Ok a)

-- the step's fault
abbrev pub FaultOf : {A F : Type 0} → Step A F → F → Type 0
FaultOf Is f = Is (Err f)

-- what a call answers in place of a value: want of memory is free, and a fault is this one
abbrev pub IsRefused : {F : Type 0} → (F → Type 0) → Or F → Type 0
IsRefused Is NoMemory = Unit {0}
IsRefused Is (Fault f) = Is f

-- the same where the fault is a step's
abbrev pub OnFault : {A F : Type 0} → Step A F → Or F → Type 0
OnFault Is NoMemory = Unit {0}
OnFault Is (Fault f) = Is (Err f)

-- a fact that holds or doesn't
abbrev pub Decided : Type 0 → Type 0
Decided Fact = Fact ⊎ (Fact → ⊥)

-- a step never has two answers
abbrev pub IsSingle : {A F : Type 0} → Step A F → Type 0
IsSingle {A} {F} Is = (r s : Result A F) → Is r → Is s → r ≡ s

-- a step has one answer
pub record IsExact {A F : Type 0} (Is : Step A F) : Type 0 where
  pub some : (r : Result A F) × Is r
  pub one : IsSingle Is
