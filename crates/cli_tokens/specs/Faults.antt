-- Tokens that stand for nothing (ECMA-335 II.22, II.24.2.4, III.1.9).
use Rattle.std.specs.Prelude.{◌≡◌, ◌<◌, ◌≤◌, ℕ, ◌/◌, ◌%◌, ◌^◌, ◌==◌, cond, List, Option, Some, None, slice_get}
use Rattle.dc_base.specs.declared.names.Token.{Token}
use Rattle.cli_metadata.specs.declared.fault.MetaFault.{MetaFault}
use Rattle.cli_metadata.specs.declared.fault.MetaCause.TheVariants.{BadIndex}
use Rattle.cli_metadata.specs.declared.tables.Table.{Table}
use Rattle.cli_metadata.specs.declared.tables.Table.TheVariants as tables
use Rattle.cli_metadata.specs.Metadata.{Contents, rows_of, IsNoUserString, IsFaultAt}
use Rattle.cli_tokens.specs.declared.least.TokenFault.{TokenFault}

-- the table of a token's kind, of those whose rows bodies and signatures name
abbrev pub table_of : ℕ → Option Table
table_of kind =
    cond (kind == 0x01) (Some tables.TypeRef) (cond (kind == 0x02) (Some tables.TypeDef)
    (cond (kind == 0x04) (Some tables.Field) (cond (kind == 0x06) (Some tables.MethodDef)
    (cond (kind == 0x0A) (Some tables.MemberRef) (cond (kind == 0x11) (Some tables.StandAloneSig)
    (cond (kind == 0x1B) (Some tables.TypeSpec) None))))))

-- the fault of a row that isn't there
abbrev pub bad_index : MetaFault
bad_index = record { cause = BadIndex; place = 0 }

-- a token names a row past its table
abbrev pub IsPast : Contents → Token → Type 0
IsPast m token = (table : Table) × (table_of (token.0 / 2 ^ 24) ≡ Some table) × (rows_of m table < token.0 % 2 ^ 24)

-- a token stands for nothing: its row isn't there, or its user string isn't one
pub data IsTokenFault (m : Contents) (token : Token) (fault : MetaFault) : Type 0 where
  past : IsPast m token → fault ≡ bad_index → IsTokenFault m token fault
  no_text : token.0 / 2 ^ 24 ≡ 0x70 → IsFaultAt (IsNoUserString m.user_strings (token.0 % 2 ^ 24)) (token.0 % 2 ^ 24) fault → IsTokenFault m token fault

-- none of these tokens stands for nothing
abbrev pub NoneFails : Contents → List Token → Type 0
NoneFails m tokens = (k : ℕ) (token : Token) (fault : MetaFault) → slice_get tokens k ≡ Some token → IsTokenFault m token fault → ⊥

-- the least of these tokens that stands for nothing
pub record IsFirst (m : Contents) (tokens : List Token) (f : TokenFault) : Type 0 where
  pub k : ℕ
  pub among : slice_get tokens k ≡ Some f.token
  pub fails : IsTokenFault m f.token f.fault
  pub least : (j : ℕ) (token : Token) (fault : MetaFault) → slice_get tokens j ≡ Some token → IsTokenFault m token fault → f.token.0 ≤ token.0

-- ---- inner facts

-- of a fault, if any, and another the one whose token is less
pub data IsLesser (least : Option TokenFault) (other lesser : TokenFault) : Type 0 where
  old : (f : TokenFault) → least ≡ Some f → f.token.0 ≤ other.token.0 → lesser ≡ f → IsLesser least other lesser
  new : ((f : TokenFault) → least ≡ Some f → other.token.0 < f.token.0) → lesser ≡ other → IsLesser least other lesser

-- the least fault after one more token
pub data IsNext (m : Contents) (token : Token) (least after : Option TokenFault) : Type 0 where
  stands : ((fault : MetaFault) → IsTokenFault m token fault → ⊥) → after ≡ least → IsNext m token least after
  fails : (other lesser : TokenFault) → other.token ≡ token → IsTokenFault m token other.fault → IsLesser least other lesser → after ≡ Some lesser → IsNext m token least after
