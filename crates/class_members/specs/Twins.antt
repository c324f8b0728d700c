-- Members of one type that can't be told from one another.
use Rattle.std.specs.Prelude.{◌≡◌, ◌≢◌, ◌⊎◌, ℕ, List, [], Bool, false, Some, slice_get}
use Rattle.dc_base.specs.declared.ty.Ty.{Ty}
use Rattle.class_rows.specs.declared.row.TypeRow.{TypeRow}
use Rattle.class_rows.specs.declared.row.MemberRow.{MemberRow}
use Rattle.class_rows.specs.declared.row.Sort.{Sort}
use Rattle.class_rows.specs.declared.row.Sort.TheVariants.{Method, Constructor, Indexer, Operator}
use Rattle.class_rows.specs.Names.{IsReference}
use Rattle.class_rows.specs.Members.{Agree, known_as, sort_of, types_of}

-- the types that tell members of one name and sort apart: none where the sort isn't overloaded
abbrev pub told_by : Sort → List Ty → List Ty
told_by Method types = types
told_by Constructor types = types
told_by Indexer types = types
told_by Operator types = types
told_by _ types = []

abbrev pub told_types : MemberRow → List Ty
told_types row = told_by (sort_of row.kind) (types_of row)

pub record AreOneOverload (a b : MemberRow) : Type 0 where
  pub name : known_as a ≡ known_as b
  pub sort : sort_of a.kind ≡ sort_of b.kind
  pub told : told_types a ≡ told_types b

-- in a type of the references they are one overload, in any other they agree
abbrev pub AreTwins : List TypeRow → MemberRow → MemberRow → Type 0
AreTwins types a b = ((IsReference types a.owner.0 → ⊥) × Agree a b) ⊎ (IsReference types a.owner.0 × AreOneOverload a b)

-- another member of the type is a twin; the flags of both are down
pub record HasTwin (types : List TypeRow) (members : List MemberRow) (nameless : List Bool) (m : ℕ) : Type 0 where
  pub named : slice_get nameless m ≡ Some false
  pub n : ℕ
  pub apart : m ≢ n
  pub other_named : slice_get nameless n ≡ Some false
  pub a : MemberRow
  pub stands : slice_get members m ≡ Some a
  pub b : MemberRow
  pub other_stands : slice_get members n ≡ Some b
  pub one_owner : a.owner ≡ b.owner
  pub twins : AreTwins types a b
