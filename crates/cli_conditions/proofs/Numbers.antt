-- A place in the order tells the condition.
use Rattle.std.proofs.Common.{◌≡◌, ◌-◌, ◌∙◌, ℕ, List, [], ◌∷◌, get_or, refl, sym, ap}
use Rattle.cli_conditions.specs.declared.condition.Condition.{Condition}
use Rattle.cli_conditions.specs.declared.condition.Condition.TheVariants.{Generic, Event, Native, Modules, Security, Marshal, Layout, FieldData, TypeSpec, ModuleMember, ValueType, Constant, RefShape, StaticShape, NoConstructor, InterfaceShape, Finalizer, ExplicitImpl, PropertyShape, Accessibility, KeptName, DelegateShape, ReferenceMember, EnumShape, ArrayDepth, Methods, Opcode, Clause, CatchClass, CatchOrder, Head, Unbox}
use Rattle.cli_conditions.specs.Conditions.{number_of}
use Rattle.cli_conditions.specs.Laws.{NumbersTell}

abbrev all : List Condition
all = Generic ∷ Event ∷ Native ∷ Modules ∷ Security ∷ Marshal ∷ Layout ∷ FieldData ∷ TypeSpec ∷ ModuleMember ∷ ValueType ∷ Constant ∷ RefShape ∷ StaticShape ∷ NoConstructor ∷ InterfaceShape ∷ Finalizer ∷ ExplicitImpl ∷ PropertyShape ∷ Accessibility ∷ KeptName ∷ DelegateShape ∷ ReferenceMember ∷ EnumShape ∷ ArrayDepth ∷ Methods ∷ Opcode ∷ Clause ∷ CatchClass ∷ CatchOrder ∷ Head ∷ Unbox ∷ []

at_number : (c : Condition) → get_or all (number_of c - 1) Generic ≡ c
at_number Generic = refl
at_number Event = refl
at_number Native = refl
at_number Modules = refl
at_number Security = refl
at_number Marshal = refl
at_number Layout = refl
at_number FieldData = refl
at_number TypeSpec = refl
at_number ModuleMember = refl
at_number ValueType = refl
at_number Constant = refl
at_number RefShape = refl
at_number StaticShape = refl
at_number NoConstructor = refl
at_number InterfaceShape = refl
at_number Finalizer = refl
at_number ExplicitImpl = refl
at_number PropertyShape = refl
at_number Accessibility = refl
at_number KeptName = refl
at_number DelegateShape = refl
at_number ReferenceMember = refl
at_number EnumShape = refl
at_number ArrayDepth = refl
at_number Methods = refl
at_number Opcode = refl
at_number Clause = refl
at_number CatchClass = refl
at_number CatchOrder = refl
at_number Head = refl
at_number Unbox = refl

pub tell : NumbersTell
tell c d same = sym (at_number c) ∙ ap (λ (n : ℕ). get_or all (n - 1) Generic) same ∙ at_number d
