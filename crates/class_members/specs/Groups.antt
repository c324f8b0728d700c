-- Members of one type that go by one name.
use Rattle.std.specs.Prelude.{◌≡◌, ◌≢◌, ℕ, ◌<◌, List, Bool, false, Some, length, slice_get}
use Rattle.dc_causes.specs.First.{IsLeast}
use Rattle.class_rows.specs.declared.row.TypeRow.{TypeRow}
use Rattle.class_rows.specs.declared.row.MemberRow.{MemberRow}
use Rattle.class_rows.specs.Names.{IsReference}
use Rattle.class_rows.specs.Members.{MayShareName, known_as}

-- both go by one name in one type of the references; the flags of both are down
pub record GoesWith (types : List TypeRow) (members : List MemberRow) (nameless : List Bool) (m n : ℕ) : Type 0 where
  pub named : slice_get nameless m ≡ Some false
  pub other_named : slice_get nameless n ≡ Some false
  pub a : MemberRow
  pub stands : slice_get members m ≡ Some a
  pub b : MemberRow
  pub other_stands : slice_get members n ≡ Some b
  pub one_owner : a.owner ≡ b.owner
  pub reference : IsReference types a.owner.0
  pub one_name : known_as a ≡ known_as b

-- f is the first that goes by the name of m, and the two may not share it
pub record IsClashOf (types : List TypeRow) (members : List MemberRow) (nameless : List Bool) (m f : ℕ) : Type 0 where
  pub first : IsLeast (GoesWith types members nameless m) f
  pub apart : f ≢ m
  pub clash : MayShareName first.holds.a first.holds.b → ⊥

abbrev pub IsFirstClash : List TypeRow → List MemberRow → List Bool → ℕ → Type 0
IsFirstClash types members nameless f = (m : ℕ) × IsClashOf types members nameless m f

-- for each member the first that goes by its name, where it goes by one
pub record AreFirstNamed (types : List TypeRow) (members : List MemberRow) (nameless : List Bool) (firsts : List ℕ) : Type 0 where
  pub long : length firsts ≡ length members
  pub within : (m f : ℕ) → slice_get firsts m ≡ Some f → f < length members
  pub first : (m f : ℕ) → slice_get firsts m ≡ Some f → GoesWith types members nameless m m → IsLeast (GoesWith types members nameless m) f

-- a member of a type of the references whose flag is down may not share the name of this other one
pub record IsOdd (types : List TypeRow) (members : List MemberRow) (nameless : List Bool) (m f : ℕ) : Type 0 where
  pub apart : f ≢ m
  pub named : slice_get nameless m ≡ Some false
  pub a : MemberRow
  pub stands : slice_get members m ≡ Some a
  pub reference : IsReference types a.owner.0
  pub b : MemberRow
  pub other_stands : slice_get members f ≡ Some b
  pub clash : MayShareName a b → ⊥
