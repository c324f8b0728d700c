-- Members of the types of a path of bases, and the innermost one that a fact holds of.
use Rattle.std.specs.Prelude.{◌≡◌, ◌⊎◌, ◌↔◌, ℕ, List, [], ◌∷◌, ◌++◌, Bool, true, Some, slice_get}
use Rattle.class_rows.specs.declared.row.TypeRow.{TypeRow}
use Rattle.class_rows.specs.declared.row.MemberRow.{MemberRow}
use Rattle.class_rows.specs.Members.{HasMember, IsOf}
use Rattle.class_rows.specs.Implemented.{AreAlike}
use Rattle.class_walk.specs.Walk.{IsBelow}

-- a number stands in a list
abbrev pub Has : List ℕ → ℕ → Type 0
Has [] m = ⊥
Has (x ∷ xs) m = (x ≡ m) ⊎ Has xs m

-- types from an inner one up, each directly below the next, as far as they are there
abbrev pub IsPath : List TypeRow → List ℕ → Type 0
IsPath types [] = Unit {0}
IsPath types (t ∷ path) = IsBelow types path t × IsPath types path

-- a member of this type whose flag is up
abbrev pub IsPicked : List MemberRow → List Bool → ℕ → ℕ → Type 0
IsPicked members picks t m = IsOf members t m × (slice_get picks m ≡ Some true)

-- Those of the types of a path: all those of a type, in any order, before those of the next one out.
abbrev pub IsTrail : List MemberRow → List Bool → List ℕ → List ℕ → Type 0
IsTrail members picks [] trail = trail ≡ []
IsTrail members picks (t ∷ path) trail =
    (mine : List ℕ) × (rest : List ℕ) × (trail ≡ mine ++ rest) × ((m : ℕ) → Has mine m ↔ IsPicked members picks t m) × IsTrail members picks path rest

-- this is the first number of a list of which a fact holds
abbrev pub FirstIn : (ℕ → Type 0) → List ℕ → ℕ → Type 0
FirstIn Fact [] n = ⊥
FirstIn Fact (m ∷ trail) n = ((m ≡ n) × Fact n) ⊎ ((Fact m → ⊥) × FirstIn Fact trail n)

-- a member that is alike to this one
abbrev pub IsAlikeTo : List TypeRow → List MemberRow → MemberRow → ℕ → Type 0
IsAlikeTo types members row n = HasMember members n (λ other. AreAlike types other row)
