-- Inner facts: the keys of the members, and behind them those of the references.
use Rattle.std.specs.Prelude.{◌≡◌, ℕ, ◌+◌, List, Some, length, slice_get}
use Rattle.class_rows.specs.declared.row.MemberRow.{MemberRow}
use Rattle.class_rows.specs.Members.{types_of}
use Rattle.cli_refs.specs.declared.key.Sought.{Sought}
use Rattle.cli_refs.specs.declared.key.Key.{Key}
use Rattle.cli_refs.specs.Sought.{shape_of}

-- what those who refer to a member say of it
pub record IsKey (row : MemberRow) (key : Key) : Type 0 where
  pub name : key.name.now ≡ row.name
  pub shape : key.shape ≡ shape_of row
  pub params : key.params.now ≡ types_of row
  pub result : key.result ≡ row.result

-- what a reference says
pub record IsKeySought (sought : Sought) (key : Key) : Type 0 where
  pub name : key.name.now ≡ sought.name.now
  pub shape : key.shape ≡ sought.shape
  pub params : key.params.now ≡ sought.params.now
  pub result : key.result ≡ sought.result

-- the keys of the first so many members
pub record AreMemberKeys (members : List MemberRow) (count : ℕ) (keys : List Key) : Type 0 where
  pub long : length keys ≡ count
  pub right : (m : ℕ) (row : MemberRow) (key : Key) → slice_get members m ≡ Some row → slice_get keys m ≡ Some key → IsKey row key

-- the keys of all members, and of the first so many references
pub record AreKeys (members : List MemberRow) (sought : List Sought) (count : ℕ) (keys : List Key) : Type 0 where
  pub long : length keys ≡ length members + count
  pub member : (m : ℕ) (row : MemberRow) (key : Key) → slice_get members m ≡ Some row → slice_get keys m ≡ Some key → IsKey row key
  pub reference : (q : ℕ) (s : Sought) (key : Key) → slice_get sought q ≡ Some s → slice_get keys (length members + q) ≡ Some key → IsKeySought s key
