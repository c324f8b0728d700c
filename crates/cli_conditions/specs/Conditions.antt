-- The conditions of the profile: their order, and the names that refusals print.
use Rattle.std.specs.Prelude.{ℕ, List, codes}
use Rattle.cli_conditions.specs.declared.condition.Condition.{Condition}
use Rattle.cli_conditions.specs.declared.condition.Condition.TheVariants.{Generic, Event, Native, Modules, Security, Marshal, Layout, FieldData, TypeSpec, ModuleMember, ValueType, Constant, RefShape, StaticShape, NoConstructor, InterfaceShape, Finalizer, ExplicitImpl, PropertyShape, Accessibility, KeptName, DelegateShape, ReferenceMember, EnumShape, ArrayDepth, Methods, Opcode, Clause, CatchClass, CatchOrder, Head, Unbox}

-- a condition's place in the order, from 1 on
abbrev pub number_of : Condition → ℕ
number_of Generic = 1
number_of Event = 2
number_of Native = 3
number_of Modules = 4
number_of Security = 5
number_of Marshal = 6
number_of Layout = 7
number_of FieldData = 8
number_of TypeSpec = 9
number_of ModuleMember = 10
number_of ValueType = 11
number_of Constant = 12
number_of RefShape = 13
number_of StaticShape = 14
number_of NoConstructor = 15
number_of InterfaceShape = 16
number_of Finalizer = 17
number_of ExplicitImpl = 18
number_of PropertyShape = 19
number_of Accessibility = 20
number_of KeptName = 21
number_of DelegateShape = 22
number_of ReferenceMember = 23
number_of EnumShape = 24
number_of ArrayDepth = 25
number_of Methods = 26
number_of Opcode = 27
number_of Clause = 28
number_of CatchClass = 29
number_of CatchOrder = 30
number_of Head = 31
number_of Unbox = 32

-- the name that a refusal prints
abbrev pub name_of : Condition → List ℕ
name_of Generic = codes "Generic"
name_of Event = codes "Event"
name_of Native = codes "Native"
name_of Modules = codes "Modules"
name_of Security = codes "Security"
name_of Marshal = codes "Marshal"
name_of Layout = codes "Layout"
name_of FieldData = codes "FieldData"
name_of TypeSpec = codes "TypeSpec"
name_of ModuleMember = codes "ModuleMember"
name_of ValueType = codes "ValueType"
name_of Constant = codes "Constant"
name_of RefShape = codes "RefShape"
name_of StaticShape = codes "StaticShape"
name_of NoConstructor = codes "NoConstructor"
name_of InterfaceShape = codes "InterfaceShape"
name_of Finalizer = codes "Finalizer"
name_of ExplicitImpl = codes "ExplicitImpl"
name_of PropertyShape = codes "PropertyShape"
name_of Accessibility = codes "Accessibility"
name_of KeptName = codes "KeptName"
name_of DelegateShape = codes "DelegateShape"
name_of ReferenceMember = codes "ReferenceMember"
name_of EnumShape = codes "EnumShape"
name_of ArrayDepth = codes "ArrayDepth"
name_of Methods = codes "Methods"
name_of Opcode = codes "Opcode"
name_of Clause = codes "Clause"
name_of CatchClass = codes "CatchClass"
name_of CatchOrder = codes "CatchOrder"
name_of Head = codes "Head"
name_of Unbox = codes "Unbox"
