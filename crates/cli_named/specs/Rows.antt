-- What rows that are reached name further, each table at its own section of ECMA-335 II.22.
use Rattle.std.specs.Prelude.{◌≡◌, ℕ, ◌+◌, ◌*◌, ◌/◌, ◌%◌, ◌^◌, ◌≤◌, List, ◌++◌}
use Rattle.std.specs.Option.{option_to_list}
use Rattle.dc_base.specs.declared.names.Token.{Token}
use Rattle.cli_metadata.specs.declared.tables.Table.{Table}
use Rattle.cli_metadata.specs.declared.tables.Table.TheVariants as tables
use Rattle.cli_metadata.specs.Metadata.{Contents, rows_of, row_of, coded_of}
use Rattle.cli_tables.specs.declared.members.MemberRefRow.{MemberRefRow}
use Rattle.cli_tables.specs.declared.members.StandAloneSigRow.{StandAloneSigRow}
use Rattle.cli_tables.specs.declared.types.TypeRefRow.{TypeRefRow}
use Rattle.cli_tables.specs.declared.types.TypeSpecRow.{TypeSpecRow}
use Rattle.cli_tables.specs.Members.{member_ref_of, stand_alone_sig_of}
use Rattle.cli_tables.specs.Types.{type_ref_of, type_spec_of}
use Rattle.cli_signature.specs.declared.kind.Kind.TheVariants.{Field, Locals, Method}
use Rattle.cli_sig_tokens.specs.Tokens.{AreTokens, AreSpecTokens}

-- a table has a row of this number
pub record IsRow (m : Contents) (table : Table) (r : ℕ) : Type 0 where
  pub low : 1 ≤ r
  pub high : r ≤ rows_of m table

-- the number of a token's table is in its top byte, that of its row in the three others (III.1.9)
abbrev pub table_in : Token → ℕ
table_in token = token.0 / 2 ^ 24

abbrev pub row_in : Token → ℕ
row_in token = token.0 % 2 ^ 24

-- the token of row r of the table of this number
abbrev pub token_at : ℕ → ℕ → Token
token_at table r = record { 0 = table * 2 ^ 24 + r }

abbrev pub type_ref_at : Contents → ℕ → TypeRefRow
type_ref_at m r = type_ref_of (row_of m tables.TypeRef r)

abbrev pub type_spec_at : Contents → ℕ → TypeSpecRow
type_spec_at m r = type_spec_of (row_of m tables.TypeSpec r)

abbrev pub member_ref_at : Contents → ℕ → MemberRefRow
member_ref_at m r = member_ref_of (row_of m tables.MemberRef r)

abbrev pub sig_at : Contents → ℕ → StandAloneSigRow
sig_at m r = stand_alone_sig_of (row_of m tables.StandAloneSig r)

-- what a row of TypeRef stands in
abbrev pub scope_of : TypeRefRow → List Token
scope_of row = option_to_list (coded_of row.scope.kind row.scope.cell)

-- the type whose member a row of MemberRef means
abbrev pub class_of : MemberRefRow → List Token
class_of row = option_to_list (coded_of row.class.kind row.class.cell)

-- What the row of a token names: a row of TypeRef what it stands in, a row of TypeSpec its type, a row of MemberRef the type and
-- what its signature says, which is that of a field or of a method, and a row of StandAloneSig what the signature of locals says.
pub data AreNamed (m : Contents) (token : Token) (tokens : List Token) : Type 0 where
  by_type_ref : table_in token ≡ 0x01 → IsRow m tables.TypeRef (row_in token) → tokens ≡ scope_of (type_ref_at m (row_in token)) → AreNamed m token tokens
  by_type_spec : table_in token ≡ 0x1B → IsRow m tables.TypeSpec (row_in token) → AreSpecTokens m (type_spec_at m (row_in token)).signature tokens → AreNamed m token tokens
  by_member_ref : (field method : List Token) → table_in token ≡ 0x0A → IsRow m tables.MemberRef (row_in token) → AreTokens m Field (member_ref_at m (row_in token)).signature field
      → AreTokens m Method (member_ref_at m (row_in token)).signature method → tokens ≡ class_of (member_ref_at m (row_in token)) ++ (field ++ method) → AreNamed m token tokens
  by_sig : table_in token ≡ 0x11 → IsRow m tables.StandAloneSig (row_in token) → AreTokens m Locals (sig_at m (row_in token)).signature tokens → AreNamed m token tokens
