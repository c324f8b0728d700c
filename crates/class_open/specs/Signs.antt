-- Inner facts: numbers that members alike have in common.
use Rattle.std.specs.Prelude.{◌≡◌, ℕ, ◌<◌, List, Some, length, slice_get}
use Rattle.class_rows.specs.declared.row.TypeRow.{TypeRow}
use Rattle.class_rows.specs.declared.row.MemberRow.{MemberRow}
use Rattle.class_rows.specs.Members.{sort_of, types_of}
use Rattle.class_rows.specs.Implemented.{AreAlike}
use Rattle.class_open.specs.declared.sign.Key.{Key}

-- in what all members alike agree: name, sort, the types of the parameters and the result
pub record IsKey (row : MemberRow) (key : Key) : Type 0 where
  pub name : key.name.now ≡ row.name
  pub sort : key.sort ≡ sort_of row.kind
  pub types : key.types.now ≡ types_of row
  pub result : key.result ≡ row.result

-- the keys of the first so many members
pub record AreKeys (members : List MemberRow) (count : ℕ) (keys : List Key) : Type 0 where
  pub long : length keys ≡ count
  pub right : (m : ℕ) (row : MemberRow) (key : Key) → slice_get members m ≡ Some row → slice_get keys m ≡ Some key → IsKey row key

-- each member has a number, and members alike have one
pub record AreSigns (members : List MemberRow) (signs : List ℕ) : Type 0 where
  pub long : length signs ≡ length members
  pub small : (m s : ℕ) → slice_get signs m ≡ Some s → s < length signs
  pub alike : (types : List TypeRow) (m n : ℕ) (a b : MemberRow) → slice_get members m ≡ Some a → slice_get members n ≡ Some b → AreAlike types a b → slice_get signs m ≡ slice_get signs n
