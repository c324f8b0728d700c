-- The rows that are asked for a signature, each table at its own section of ECMA-335 II.22.
use Rattle.std.specs.Prelude.{ℕ, ◌+◌, ◌-◌, ◌*◌, ◌^◌, ◌<◌, Bool, false, List, slice_index_or, Option, Some, None, cond}
use Rattle.dc_base.specs.declared.names.Token.{Token}
use Rattle.cli_metadata.specs.declared.tables.Table.{Table}
use Rattle.cli_metadata.specs.declared.tables.Table.TheVariants as tables
use Rattle.cli_metadata.specs.Metadata.{Contents, rows_of, row_of}
use Rattle.cli_tables.specs.Members.{field_of, method_def_of, member_ref_of, stand_alone_sig_of}
use Rattle.cli_tables.specs.Properties.{property_of}
use Rattle.cli_tables.specs.Types.{type_spec_of}
use Rattle.cli_named.specs.Numbers.{numbers_of, number_of}
use Rattle.cli_sigs.specs.declared.form.Form.{Form}
use Rattle.cli_sigs.specs.declared.form.Form.TheVariants as forms
use Rattle.cli_sigs.specs.declared.table.SigTable.{SigTable}
use Rattle.cli_sigs.specs.declared.table.SigTable.TheVariants.{Field, MethodDef, MemberRef, StandAloneSig, Property, TypeSpec}

-- Metadata; for each row that has a number whether it is reached; and for each row of MethodDef and of MemberRef, from row 1 on,
-- whether it is the constructor of a delegate.
pub record Subject : Type 0 where
  pub metadata : Contents
  pub reached : List Bool
  pub constructors : List Bool
  pub named_constructors : List Bool

abbrev pub table_of : SigTable → Table
table_of Field = tables.Field
table_of MethodDef = tables.MethodDef
table_of MemberRef = tables.MemberRef
table_of StandAloneSig = tables.StandAloneSig
table_of Property = tables.Property
table_of TypeSpec = tables.TypeSpec

-- the numbers of the tables (II.22)
abbrev pub table_number : SigTable → ℕ
table_number Field = 0x04
table_number MethodDef = 0x06
table_number MemberRef = 0x0A
table_number StandAloneSig = 0x11
table_number Property = 0x17
table_number TypeSpec = 0x1B

-- the token of row r of a table
abbrev pub token_at : SigTable → ℕ → Token
token_at table r = record { 0 = table_number table * 2 ^ 24 + r }

-- where in the heap of blobs the signature of row r stands
abbrev pub place_of : Contents → SigTable → ℕ → ℕ
place_of m Field r = (field_of (row_of m tables.Field r)).signature
place_of m MethodDef r = (method_def_of (row_of m tables.MethodDef r)).signature
place_of m MemberRef r = (member_ref_of (row_of m tables.MemberRef r)).signature
place_of m StandAloneSig r = (stand_alone_sig_of (row_of m tables.StandAloneSig r)).signature
place_of m Property r = (property_of (row_of m tables.Property r)).signature
place_of m TypeSpec r = (type_spec_of (row_of m tables.TypeSpec r)).signature

-- the mark of a number, where there is one
abbrev pub marked : List Bool → Option ℕ → Bool
marked marks None = false
marked marks (Some k) = slice_index_or marks k false

-- row r of a table is reached
abbrev pub is_reached : Subject → SigTable → ℕ → Bool
is_reached s table r = marked s.reached (number_of (numbers_of s.metadata) (token_at table r))

-- what row r is asked for; the rows of three tables are asked where they are reached
abbrev pub form_of : Subject → SigTable → ℕ → Option Form
form_of s Field r = Some forms.Field
form_of s MethodDef r = Some (cond (slice_index_or s.constructors (r - 1) false) forms.Constructor forms.Method)
form_of s MemberRef r = cond (is_reached s MemberRef r) (Some (cond (slice_index_or s.named_constructors (r - 1) false) forms.NamedConstructor forms.Member)) None
form_of s StandAloneSig r = cond (is_reached s StandAloneSig r) (Some forms.Locals) None
form_of s Property r = Some forms.Property
form_of s TypeSpec r = cond (is_reached s TypeSpec r) (Some forms.Type_) None

-- three bytes hold each row's number of these tables
pub record AreFew (m : Contents) : Type 0 where
  pub fields : rows_of m tables.Field < 2 ^ 24
  pub methods : rows_of m tables.MethodDef < 2 ^ 24
  pub members : rows_of m tables.MemberRef < 2 ^ 24
  pub sigs : rows_of m tables.StandAloneSig < 2 ^ 24
  pub properties : rows_of m tables.Property < 2 ^ 24
  pub specs : rows_of m tables.TypeSpec < 2 ^ 24
