-- Members by their names.
use Rattle.std.specs.Prelude.{◌≡◌, ℕ, List, Bool, true, Some, length, slice_get}
use Rattle.dc_base.specs.declared.names.MemberId.{MemberId}
use Rattle.class_rows.specs.declared.row.TypeRow.{TypeRow}
use Rattle.class_rows.specs.declared.row.MemberRow.{MemberRow}
use Rattle.class_rows.specs.Names.{IsReference}
use Rattle.class_rows.specs.Members.{HasMember, IsNameless}
use Rattle.class_index.specs.Order.{IsIndex}
use Rattle.class_alike.specs.declared.named.Named.{Named}

-- a member of a type of the references
abbrev pub IsOfReference : List TypeRow → List MemberRow → ℕ → Type 0
IsOfReference types members m = HasMember members m (λ row. IsReference types row.owner.0)

-- the members that have no name, where these are the explicit implementations
pub record AreMarks (types : List TypeRow) (members : List MemberRow) (explicit : List (MemberId × MemberId)) (marks : List Bool) : Type 0 where
  pub long : length marks ≡ length members
  pub yes_ : (m : ℕ) → slice_get marks m ≡ Some true → IsNameless types members explicit m
  pub no_ : (m : ℕ) → IsNameless types members explicit m → slice_get marks m ≡ Some true

pub record IsNamed (types : List TypeRow) (members : List MemberRow) (explicit : List (MemberId × MemberId)) (named : Named) : Type 0 where
  pub index : IsIndex members named.index.order
  pub marks : AreMarks types members explicit named.nameless
