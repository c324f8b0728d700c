-- Inner facts: what no two members may share.
use Rattle.std.specs.Prelude.{◌≡◌, ℕ, List, Bool, true, false, Some, length, slice_get}
use Rattle.class_rows.specs.declared.row.TypeRow.{TypeRow}
use Rattle.class_rows.specs.declared.row.MemberRow.{MemberRow}
use Rattle.class_rows.specs.Names.{IsReference}
use Rattle.class_rows.specs.Members.{HasMember, known_as, sort_of}
use Rattle.class_members.specs.declared.sign.Signature.{Signature}
use Rattle.class_members.specs.declared.sign.Overload.{Overload}
use Rattle.class_members.specs.declared.sign.Sign.{Sign}
use Rattle.class_members.specs.declared.sign.Sign.TheVariants.{Nameless, Own, Reference}
use Rattle.class_members.specs.Twins.{told_types}

pub record IsSignature (row : MemberRow) (s : Signature) : Type 0 where
  pub owner : s.owner ≡ row.owner.0
  pub name : s.name.now ≡ row.name
  pub sort : s.sort ≡ sort_of row.kind
  pub params : s.params.now ≡ row.params
  pub result : s.result ≡ row.result

pub record IsOverload (row : MemberRow) (o : Overload) : Type 0 where
  pub owner : o.owner ≡ row.owner.0
  pub name : o.name.now ≡ known_as row
  pub sort : o.sort ≡ sort_of row.kind
  pub types : o.types.now ≡ told_types row

-- the member's number where its flag is up, and else what tells it from others of its type
abbrev pub IsSign : List TypeRow → List MemberRow → List Bool → ℕ → Sign → Type 0
IsSign types members nameless m (Nameless number) = (number ≡ m) × (slice_get nameless m ≡ Some true)
IsSign types members nameless m (Own s) =
    (slice_get nameless m ≡ Some false) × HasMember members m (λ row. (IsReference types row.owner.0 → ⊥) × IsSignature row s)
IsSign types members nameless m (Reference o) =
    (slice_get nameless m ≡ Some false) × HasMember members m (λ row. IsReference types row.owner.0 × IsOverload row o)

-- the same of the first so many members
pub record AreSigns (types : List TypeRow) (members : List MemberRow) (nameless : List Bool) (count : ℕ) (signs : List Sign) : Type 0 where
  pub long : length signs ≡ count
  pub signed : (m : ℕ) (s : Sign) → slice_get signs m ≡ Some s → IsSign types members nameless m s
