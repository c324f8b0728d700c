-- Each failing row is one that is asked, and a row of a table that no assembly of the profile has fails.
use Rattle.std.proofs.Common.{◌≡◌, ℕ, ◌+◌, ◌^◌, ◌<◌, ◌≤◌, refl, inl, inr, arith}
use Rattle.std.proofs.lemmas.Bool.{cases_lt}
use Rattle.cli_conditions.specs.declared.condition.Condition.{Condition}
use Rattle.cli_conditions.specs.declared.condition.Condition.TheVariants as conditions
use Rattle.cli_metadata.specs.declared.tables.Table.{Table}
use Rattle.cli_metadata.specs.declared.tables.Table.TheVariants as tables
use Rattle.cli_metadata.specs.Metadata.{rows_of}
use Rattle.cli_profile.specs.declared.judged.Judged.{Judged}
use Rattle.cli_profile.specs.declared.judged.Judged.TheVariants.{Field, MethodDef, FieldMarshal, DeclSecurity, ClassLayout, FieldLayout, EventMap, Event, ModuleRef, TypeSpec, ImplMap, FieldRva, Assembly, File, ExportedType, GenericParam, MethodSpec, GenericParamConstraint}
use Rattle.cli_profile.specs.Methods.{IsRow}
use Rattle.cli_profile.specs.Rows.{Subject, IsGeneric, IsEvent, IsNative, IsModules, IsSecurity, IsMarshal, IsLayout, IsFieldData, IsTypeSpec, IsModuleMember}
use Rattle.cli_profile.specs.Profile.{Fails}
use Rattle.cli_profile.specs.Judged.{table_of, asked, FailsNone}

-- row n of the table is asked
pub record IsAsked (s : Subject) (table : Table) (n : ℕ) : Type 0 where
  pub judged : Judged
  pub is : table ≡ table_of judged
  pub low : 1 ≤ n
  pub high : n ≤ asked judged s

generic : (s : Subject) (table : Table) (n : ℕ) → IsGeneric s table n → IsAsked s table n
generic s tables.GenericParam n h = record { judged = GenericParam; is = refl; low = h.low; high = h.high }
generic s tables.MethodSpec n h = record { judged = MethodSpec; is = refl; low = h.low; high = h.high }
generic s tables.GenericParamConstraint n h = record { judged = GenericParamConstraint; is = refl; low = h.low; high = h.high }
generic s _ n h = absurd h

event : (s : Subject) (table : Table) (n : ℕ) → IsEvent s table n → IsAsked s table n
event s tables.EventMap n h = record { judged = EventMap; is = refl; low = h.low; high = h.high }
event s tables.Event n h = record { judged = Event; is = refl; low = h.low; high = h.high }
event s _ n h = absurd h

native : (s : Subject) (table : Table) (n : ℕ) → IsNative s table n → IsAsked s table n
native s tables.MethodDef n h = record { judged = MethodDef; is = refl; low = h.there.low; high = h.there.high }
native s tables.ImplMap n h = record { judged = ImplMap; is = refl; low = h.low; high = h.high }
native s _ n h = absurd h

modules : (s : Subject) (table : Table) (n : ℕ) → IsModules s table n → IsAsked s table n
modules s tables.ModuleRef n h = record { judged = ModuleRef; is = refl; low = h.low; high = h.high }
modules s tables.File n h = record { judged = File; is = refl; low = h.low; high = h.high }
modules s tables.ExportedType n h = record { judged = ExportedType; is = refl; low = h.low; high = h.high }
modules s tables.Assembly n (inl h) = record { judged = Assembly; is = refl; low = h.1.low; high = omega (arith, h.1.high) }
modules s tables.Assembly n (inr h) = record { judged = Assembly; is = refl; low = omega (arith, h.0); high = omega (arith, h.0) }
modules s _ n h = absurd h

security : (s : Subject) (table : Table) (n : ℕ) → IsSecurity s table n → IsAsked s table n
security s tables.DeclSecurity n h = record { judged = DeclSecurity; is = refl; low = h.low; high = h.high }
security s _ n h = absurd h

marshal : (s : Subject) (table : Table) (n : ℕ) → IsMarshal s table n → IsAsked s table n
marshal s tables.FieldMarshal n h = record { judged = FieldMarshal; is = refl; low = h.low; high = h.high }
marshal s _ n h = absurd h

layout : (s : Subject) (table : Table) (n : ℕ) → IsLayout s table n → IsAsked s table n
layout s tables.ClassLayout n h = record { judged = ClassLayout; is = refl; low = h.low; high = h.high }
layout s tables.FieldLayout n h = record { judged = FieldLayout; is = refl; low = h.low; high = h.high }
layout s _ n h = absurd h

field_data : (s : Subject) (table : Table) (n : ℕ) → IsFieldData s table n → IsAsked s table n
field_data s tables.FieldRva n h = record { judged = FieldRva; is = refl; low = h.low; high = h.high }
field_data s _ n h = absurd h

type_spec : (s : Subject) (table : Table) (n : ℕ) → IsTypeSpec s table n → IsAsked s table n
type_spec s tables.TypeSpec n h = record { judged = TypeSpec; is = refl; low = h.there.low; high = h.there.high }
type_spec s _ n h = absurd h

module_member : (s : Subject) (table : Table) (n : ℕ) → IsModuleMember s table n → IsAsked s table n
module_member s tables.Field n h = record { judged = Field; is = refl; low = h.there.low; high = h.there.high }
module_member s tables.MethodDef n h = record { judged = MethodDef; is = refl; low = h.there.low; high = h.there.high }
module_member s _ n h = absurd h

-- a row that fails a condition is asked
pub asks : (s : Subject) (c : Condition) (table : Table) (n : ℕ) → Fails s c table n → IsAsked s table n
asks s conditions.Generic table n h = generic s table n h
asks s conditions.Event table n h = event s table n h
asks s conditions.Native table n h = native s table n h
asks s conditions.Modules table n h = modules s table n h
asks s conditions.Security table n h = security s table n h
asks s conditions.Marshal table n h = marshal s table n h
asks s conditions.Layout table n h = layout s table n h
asks s conditions.FieldData table n h = field_data s table n h
asks s conditions.TypeSpec table n h = type_spec s table n h
asks s conditions.ModuleMember table n h = module_member s table n h
asks s _ table n h = absurd h

-- ---- rows that fail whatever they hold

-- the tables of which a row may be in the profile
abbrev pub IsSifted : Judged → Type 0
IsSifted Field = Unit {0}
IsSifted MethodDef = Unit {0}
IsSifted TypeSpec = Unit {0}
IsSifted Assembly = Unit {0}
IsSifted _ = ⊥

row : (s : Subject) (table : Table) (k : ℕ) → k < rows_of s.metadata table → IsRow s.metadata table (k + 1)
row s table k lt = record { low = omega arith; high = omega (arith, lt) }

pub barred : (judged : Judged) (s : Subject) (k : ℕ) → (IsSifted judged → ⊥) → k < asked judged s → FailsNone judged s k → ⊥
barred Field s k other lt none = other tt
barred MethodDef s k other lt none = other tt
barred TypeSpec s k other lt none = other tt
barred Assembly s k other lt none = other tt
barred FieldMarshal s k other lt none = none conditions.Marshal (row s tables.FieldMarshal k lt)
barred DeclSecurity s k other lt none = none conditions.Security (row s tables.DeclSecurity k lt)
barred ClassLayout s k other lt none = none conditions.Layout (row s tables.ClassLayout k lt)
barred FieldLayout s k other lt none = none conditions.Layout (row s tables.FieldLayout k lt)
barred EventMap s k other lt none = none conditions.Event (row s tables.EventMap k lt)
barred Event s k other lt none = none conditions.Event (row s tables.Event k lt)
barred ModuleRef s k other lt none = none conditions.Modules (row s tables.ModuleRef k lt)
barred ImplMap s k other lt none = none conditions.Native (row s tables.ImplMap k lt)
barred FieldRva s k other lt none = none conditions.FieldData (row s tables.FieldRva k lt)
barred File s k other lt none = none conditions.Modules (row s tables.File k lt)
barred ExportedType s k other lt none = none conditions.Modules (row s tables.ExportedType k lt)
barred GenericParam s k other lt none = none conditions.Generic (row s tables.GenericParam k lt)
barred MethodSpec s k other lt none = none conditions.Generic (row s tables.MethodSpec k lt)
barred GenericParamConstraint s k other lt none = none conditions.Generic (row s tables.GenericParamConstraint k lt)

-- ---- the number of the first row that fails fits three bytes

fits_barred : (judged : Judged) (s : Subject) (k : ℕ) → (IsSifted judged → ⊥) → k < asked judged s → ((m : ℕ) → m < k → FailsNone judged s m) → k + 1 < 2 ^ 24
fits_barred judged s k other lt before = elim (cases_lt 0 k) [
  | inl behind ↦ absurd (barred judged s 0 other (omega (arith, lt)) (before 0 behind))
  | inr first ↦ omega (arith, first)
]

fits_assembly : (s : Subject) (k : ℕ) → k < asked Assembly s → ((m : ℕ) → m < k → FailsNone Assembly s m) → k + 1 < 2 ^ 24
fits_assembly s k lt before = elim (cases_lt 1 k) [
  | inl behind ↦ absurd (before 1 behind conditions.Modules (inl (omega arith, record { low = omega arith; high = omega (arith, lt, behind) })))
  | inr low ↦ omega (arith, low)
]

pub fits : (judged : Judged) (s : Subject) (k : ℕ) → rows_of s.metadata tables.Field < 2 ^ 24 → rows_of s.metadata tables.MethodDef < 2 ^ 24 → rows_of s.metadata tables.TypeSpec < 2 ^ 24 → k < asked judged s → ((m : ℕ) → m < k → FailsNone judged s m) → k + 1 < 2 ^ 24
fits Field s k fields methods specs lt before = omega (arith, fields, lt)
fits MethodDef s k fields methods specs lt before = omega (arith, methods, lt)
fits TypeSpec s k fields methods specs lt before = omega (arith, specs, lt)
fits Assembly s k fields methods specs lt before = fits_assembly s k lt before
fits judged s k fields methods specs lt before = fits_barred judged s k (λ sifted. sifted) lt before

-- ---- assemblies

pub no_assembly : (s : Subject) (k : ℕ) → rows_of s.metadata tables.Assembly ≡ 0 → k ≡ 0 → FailsNone Assembly s k → ⊥
no_assembly s k empty first none = none conditions.Modules (inr (omega (arith, first), empty))

pub other_assembly : (s : Subject) (k : ℕ) → (k ≡ 0 → ⊥) → k < asked Assembly s → FailsNone Assembly s k → ⊥
other_assembly s k behind lt none = elim (cases_lt 0 k) [
  | inl more ↦ none conditions.Modules (inl (omega (arith, more), record { low = omega arith; high = omega (arith, lt, more) }))
  | inr zero ↦ behind (omega (arith, zero))
]

-- a table that is none of the four
pub unsifted : (judged : Judged) → (judged ≡ Field → ⊥) → (judged ≡ MethodDef → ⊥) → (judged ≡ TypeSpec → ⊥) → (judged ≡ Assembly → ⊥) → IsSifted judged → ⊥
unsifted Field field method spec assembly h = field refl
unsifted MethodDef field method spec assembly h = method refl
unsifted TypeSpec field method spec assembly h = spec refl
unsifted Assembly field method spec assembly h = assembly refl
unsifted _ field method spec assembly h = h
