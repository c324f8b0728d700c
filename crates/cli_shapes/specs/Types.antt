-- Which own types fail the conditions of the profile that are asked of types.
use Rattle.std.specs.Prelude.{◌≡◌, ◌≢◌, ◌⊎◌, ℕ, true, false, codes, Option, Some, None, slice_get}
use Rattle.dc_base.specs.declared.ty.Prim_.{Prim_}
use Rattle.dc_base.specs.declared.ty.Prim_.TheVariants.{Bool, Char, I1, U1, I2, U2, I4, U4, I8, U8}
use Rattle.class_rows.specs.declared.row.MemberRow.{MemberRow}
use Rattle.class_rows.specs.declared.row.Kind.TheVariants.{Class, StaticClass, Enum, Delegate}
use Rattle.class_rows.specs.declared.row.Sort.TheVariants.{Field as FieldSort, Method as MethodSort, Constructor as ConstructorSort}
use Rattle.class_rows.specs.declared.row.Access.TheVariants.{Public}
use Rattle.class_rows.specs.declared.row.Virt.TheVariants.{Virtual}
use Rattle.class_rows.specs.Core.{IsSystem}
use Rattle.class_rows.specs.Members.{sort_of}
use Rattle.cli_shapes.specs.declared.own.Own.{Own}
use Rattle.cli_shapes.specs.declared.own.Instances.{Instances}
use Rattle.cli_shapes.specs.Own.{HasOwnType, HasOf, IsTold}

-- it extends System.ValueType (II.13)
abbrev pub IsStruct : Own → ℕ → Type 0
IsStruct s t = HasOwnType s t (λ row. (b : ℕ) × (row.base ≡ Some (record { 0 = b })) × IsSystem s.table.now.types (codes "ValueType") b)

-- ---- classes

abbrev pub IsInstance : ℕ → MemberRow → Type 0
IsInstance k row = row.is_static ≡ false

abbrev pub IsConstructor : ℕ → MemberRow → Type 0
IsConstructor k row = (sort_of row.kind ≡ ConstructorSort) × (row.is_static ≡ false)

-- a class that is abstract and sealed, with an instance member (II.10.1.4; ECMA-334 on static classes)
abbrev pub IsStaticWithInstance : Own → ℕ → Type 0
IsStaticWithInstance s t = HasOwnType s t (λ row. row.kind ≡ StaticClass) × HasOf s t IsInstance

-- any other class, without an instance constructor (ECMA-334 on instance constructors)
abbrev pub IsWithoutConstructor : Own → ℕ → Type 0
IsWithoutConstructor s t = HasOwnType s t (λ row. row.kind ≡ Class) × (HasOf s t IsConstructor → ⊥)

-- ---- delegates

-- the usual constructor: it is public, on an instance, and takes an object and a native integer (II.14.6)
abbrev pub IsUsualMaker : Own → ℕ → MemberRow → Type 0
IsUsualMaker s k row =
    (row.name ≡ codes ".ctor") × (row.is_static ≡ false) × (row.access ≡ Public) × IsTold s k (λ told. told.makes_delegate ≡ true)

abbrev pub IsOtherMaker : Own → ℕ → MemberRow → Type 0
IsOtherMaker s k row = (row.name ≡ codes ".ctor") × (IsUsualMaker s k row → ⊥)

-- the usual `Invoke`: it is a public, virtual method on an instance, with any parameters and any result (II.14.6)
abbrev pub IsUsualInvoke : ℕ → MemberRow → Type 0
IsUsualInvoke k row =
    (row.name ≡ codes "Invoke") × (sort_of row.kind ≡ MethodSort) × (row.is_static ≡ false) × (row.access ≡ Public) × (row.virt ≡ Virtual)

abbrev pub IsOtherInvoke : ℕ → MemberRow → Type 0
IsOtherInvoke k row = (row.name ≡ codes "Invoke") × (sort_of row.kind ≢ FieldSort) × (IsUsualInvoke k row → ⊥)

-- it has a constructor and an `Invoke`, and each that it has is the usual one
pub record IsUsualDelegate (s : Own) (t : ℕ) : Type 0 where
  pub maker : HasOf s t (IsUsualMaker s)
  pub no_other : HasOf s t (IsOtherMaker s) → ⊥
  pub invoke : HasOf s t IsUsualInvoke
  pub no_other_invoke : HasOf s t IsOtherInvoke → ⊥

abbrev pub IsOtherDelegate : Own → ℕ → Type 0
IsOtherDelegate s t = HasOwnType s t (λ row. row.kind ≡ Delegate) × (IsUsualDelegate s t → ⊥)

-- ---- enums

-- the integer types, of which those of truths and of characters are none
abbrev pub IsInteger : Option Prim_ → Type 0
IsInteger None = ⊥
IsInteger (Some Bool) = ⊥
IsInteger (Some Char) = ⊥
IsInteger (Some I1) = Unit {0}
IsInteger (Some U1) = Unit {0}
IsInteger (Some I2) = Unit {0}
IsInteger (Some U2) = Unit {0}
IsInteger (Some I4) = Unit {0}
IsInteger (Some U4) = Unit {0}
IsInteger (Some I8) = Unit {0}
IsInteger (Some U8) = Unit {0}

-- it has one instance field, of an integer type (II.14.3)
pub record IsOverInteger (s : Own) (t : ℕ) : Type 0 where
  pub fields : Instances
  pub stands : slice_get s.instances.now t ≡ Some fields
  pub one : fields.count ≡ 1
  pub integer : IsInteger fields.first

abbrev pub IsMethod : ℕ → MemberRow → Type 0
IsMethod k row = sort_of row.kind ≢ FieldSort

-- an enum that hasn't, or that has methods
abbrev pub IsOtherEnum : Own → ℕ → Type 0
IsOtherEnum s t =
    HasOwnType s t (λ row. (prim : Prim_) × (row.kind ≡ Enum prim)) × ((IsOverInteger s t → ⊥) ⊎ HasOf s t IsMethod)
