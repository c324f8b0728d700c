-- The tables whose rows are asked. It serves proofs: what fails is in `Rows`, and which failure is the first in `Profile`.
use Rattle.std.specs.Prelude.{◌≡◌, ℕ, ◌+◌, ◌<◌, ◌^◌, max}
use Rattle.cli_conditions.specs.declared.condition.Condition.{Condition}
use Rattle.cli_conditions.specs.Conditions.{number_of as place_of}
use Rattle.cli_metadata.specs.declared.tables.Table.{Table}
use Rattle.cli_metadata.specs.declared.tables.Table.TheVariants as tables
use Rattle.cli_metadata.specs.Metadata.{Contents, rows_of}
use Rattle.cli_lists.specs.declared.lists.Lists.{Lists}
use Rattle.cli_lists.specs.Lists.{lists_of, AreLists, FewRows, HaveEachRow}
use Rattle.cli_profile.specs.declared.judged.Judged.{Judged}
use Rattle.cli_profile.specs.declared.judged.Judged.TheVariants.{Field, MethodDef, FieldMarshal, DeclSecurity, ClassLayout, FieldLayout, EventMap, Event, ModuleRef, TypeSpec, ImplMap, FieldRva, Assembly, File, ExportedType, GenericParam, MethodSpec, GenericParamConstraint}
use Rattle.cli_profile.specs.Rows.{Subject}
use Rattle.cli_profile.specs.Profile.{Fails}

-- these are the list columns of metadata, each of which begins lists, and three bytes hold each row's number
pub record IsSound (m : Contents) (lists : Lists) : Type 0 where
  pub same : lists ≡ lists_of m
  pub each_row : HaveEachRow m lists
  pub starts : AreLists lists
  pub few : FewRows m
  pub few_specs : rows_of m tables.TypeSpec < 2 ^ 24

abbrev pub table_of : Judged → Table
table_of Field = tables.Field
table_of MethodDef = tables.MethodDef
table_of FieldMarshal = tables.FieldMarshal
table_of DeclSecurity = tables.DeclSecurity
table_of ClassLayout = tables.ClassLayout
table_of FieldLayout = tables.FieldLayout
table_of EventMap = tables.EventMap
table_of Event = tables.Event
table_of ModuleRef = tables.ModuleRef
table_of TypeSpec = tables.TypeSpec
table_of ImplMap = tables.ImplMap
table_of FieldRva = tables.FieldRva
table_of Assembly = tables.Assembly
table_of File = tables.File
table_of ExportedType = tables.ExportedType
table_of GenericParam = tables.GenericParam
table_of MethodSpec = tables.MethodSpec
table_of GenericParamConstraint = tables.GenericParamConstraint

-- how many rows are asked: the first of Assembly is asked also where it isn't there
abbrev pub asked : Judged → Subject → ℕ
asked Assembly s = max (rows_of s.metadata tables.Assembly) 1
asked judged s = rows_of s.metadata (table_of judged)

-- row k + 1 of the table fails no condition
abbrev pub FailsNone : Judged → Subject → ℕ → Type 0
FailsNone judged s k = (c : Condition) → Fails s c (table_of judged) (k + 1) → ⊥

-- row k + 1 of the table fails this condition and none before it
pub record FailsAt (judged : Judged) (s : Subject) (k : ℕ) (c : Condition) : Type 0 where
  pub fails : Fails s c (table_of judged) (k + 1)
  pub first : (d : Condition) → place_of d < place_of c → Fails s d (table_of judged) (k + 1) → ⊥
