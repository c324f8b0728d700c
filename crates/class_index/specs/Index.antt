-- The members of a type, and those that go by one name.
use Rattle.std.specs.Prelude.{◌≡◌, ℕ, List, Some, slice_get}
use Rattle.class_rows.specs.declared.row.MemberRow.{MemberRow}
use Rattle.class_rows.specs.Members.{HasMember, known_as}

-- a member of this type that C# knows by this name
abbrev pub IsKnownSo : List MemberRow → ℕ → List ℕ → ℕ → Type 0
IsKnownSo members t name m = HasMember members m (λ row. (row.owner ≡ record { 0 = t }) × (known_as row ≡ name))

-- no number stands twice
abbrev pub AreApart : List ℕ → Type 0
AreApart numbers = (j k m : ℕ) → slice_get numbers j ≡ Some m → slice_get numbers k ≡ Some m → j ≡ k
