-- Inner facts: the first member of each sign in each type that is there.
use Rattle.std.specs.Prelude.{◌≡◌, ℕ, ◌<◌, List, Bool, true, Some, length, slice_get}
use Rattle.class_rows.specs.declared.row.MemberRow.{MemberRow}
use Rattle.class_rows.specs.Members.{HasMember, IsOf}
use Rattle.cli_refs.specs.declared.pick.Place.{Place}

-- the type of a member, and its sign
pub record IsPlace (row : MemberRow) (s : ℕ) (place : Place) : Type 0 where
  pub owner : place.owner ≡ row.owner.0
  pub sign : place.sign ≡ s

-- those of the first so many members
pub record ArePlaces (members : List MemberRow) (signs : List ℕ) (count : ℕ) (places : List Place) : Type 0 where
  pub long : length places ≡ count
  pub right : (m s : ℕ) (row : MemberRow) (place : Place) → slice_get members m ≡ Some row → slice_get signs m ≡ Some s → slice_get places m ≡ Some place → IsPlace row s place

-- the member is the first at its place, and its type is one of so many
abbrev pub IsPickedAt : ℕ → List MemberRow → List ℕ → ℕ → Type 0
IsPickedAt types members firsts m = (slice_get firsts m ≡ Some m) × HasMember members m (λ row. row.owner.0 < types)

-- of the first so many members the flags of those are up
pub record ArePicked (types : ℕ) (members : List MemberRow) (firsts : List ℕ) (count : ℕ) (picks : List Bool) : Type 0 where
  pub long : length picks ≡ count
  pub yes_ : (m : ℕ) → slice_get picks m ≡ Some true → IsPickedAt types members firsts m
  pub no_ : (m : ℕ) → m < count → IsPickedAt types members firsts m → slice_get picks m ≡ Some true

-- a member of this type has this sign
abbrev pub IsSignedIn : List MemberRow → List ℕ → ℕ → ℕ → ℕ → Type 0
IsSignedIn members signs t s m = IsOf members t m × (slice_get signs m ≡ Some s)

-- of each type that is there and each sign the first member is picked, and no other
pub record ArePicks (types : ℕ) (members : List MemberRow) (signs : List ℕ) (picks : List Bool) : Type 0 where
  pub there : (t m : ℕ) → slice_get picks m ≡ Some true → IsOf members t m → t < types
  pub least : (t s m n : ℕ) → slice_get picks m ≡ Some true → IsSignedIn members signs t s m → n < m → IsSignedIn members signs t s n → ⊥
  pub has : (t s m : ℕ) → t < types → IsSignedIn members signs t s m → (n : ℕ) × (slice_get picks n ≡ Some true) × IsSignedIn members signs t s n
