-- Inner facts: members by what an explicit implementation names.
use Rattle.std.specs.Prelude.{◌≡◌, ℕ, ◌+◌, ◌<◌, List, Some, cond, nat_lt, slice_get, length}
use Rattle.class_rows.specs.declared.row.MemberRow.{MemberRow}
use Rattle.class_rows.specs.declared.row.Sort.TheVariants.{Method}
use Rattle.class_rows.specs.Members.{sort_of}
use Rattle.class_written.specs.Named.{Known, named, nothing}
use Rattle.class_texts.specs.declared.row.Row.{Row}
use Rattle.class_texts.specs.declared.pairs.Key.{Key}

-- the key of a row
pub record IsKeyOf (key : Key) (row : MemberRow) : Type 0 where
  pub owner : key.owner ≡ row.owner.0
  pub name : key.name.now ≡ row.name
  pub sort : key.sort ≡ sort_of row.kind
  pub params : key.params.now ≡ row.params
  pub result : key.result ≡ row.result

-- the key of the method that a row implements by name
pub record IsWanted (types : List Known) (key : Key) (row : MemberRow) (interface name : List ℕ) : Type 0 where
  pub owner : key.owner ≡ named types interface
  pub one_name : key.name.now ≡ name
  pub sort : key.sort ≡ Method
  pub params : key.params.now ≡ row.params
  pub result : key.result ≡ row.result

-- the same for the row of a number
pub record IsWantedBy (types : List Known) (rows : List Row) (n : ℕ) (key : Key) : Type 0 where
  pub row : Row
  pub stands : slice_get rows n ≡ Some row
  pub named : List ℕ × List ℕ
  pub implements : row.implements ≡ Some named
  pub wanted : IsWanted types key row.row named.0 named.1

-- two keys say the same
pub record AreOneKey (a b : Key) : Type 0 where
  pub owner : a.owner ≡ b.owner
  pub name : a.name.now ≡ b.name.now
  pub sort : a.sort ≡ b.sort
  pub params : a.params.now ≡ b.params.now
  pub result : a.result ≡ b.result

-- the keys of the first rows
pub record AreRowKeys (rows : List Row) (count : ℕ) (keys : List Key) : Type 0 where
  pub long : length keys ≡ count
  pub own : (n : ℕ) (row : Row) (key : Key) → n < count → slice_get rows n ≡ Some row → slice_get keys n ≡ Some key → IsKeyOf key row.row

-- the keys of all rows, and behind them those of the methods that the first of these rows implement by name
pub record AreKeys (types : List Known) (rows : List Row) (asked : List ℕ) (count : ℕ) (keys : List Key) : Type 0 where
  pub long : length keys ≡ length rows + count
  pub own : (n : ℕ) (row : Row) (key : Key) → slice_get rows n ≡ Some row → slice_get keys n ≡ Some key → IsKeyOf key row.row
  pub wanted : (j n : ℕ) (key : Key) → j < count → slice_get asked j ≡ Some n → slice_get keys (length rows + j) ≡ Some key → IsWantedBy types rows n key

-- each of these numbers is that of a row that implements a method by name
abbrev pub AllImplement : List Row → List ℕ → Type 0
AllImplement rows asked =
    (j n : ℕ) → slice_get asked j ≡ Some n → (row : Row) × (slice_get rows n ≡ Some row) × ((named : List ℕ × List ℕ) × (row.implements ≡ Some named))

-- the number of a row, or one that names nothing
abbrev pub target_of : ℕ → ℕ → ℕ
target_of first rows = cond (nat_lt first rows) first nothing
