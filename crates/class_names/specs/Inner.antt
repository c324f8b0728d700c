-- Inner facts of the full names; nobody needs to believe them.
use Rattle.std.specs.Prelude.{◌≡◌, ◌≢◌, ℕ, ◌<◌, List, [], ◌∷◌, ◌++◌, length, fold, Some, slice_get}
use Rattle.class_rows.specs.declared.row.TypeRow.{TypeRow}
use Rattle.class_rows.specs.Names.{IsReference, IsFullName}

-- inner names behind one another, from the last to the first, each behind a dot
abbrev pub behind : List (List ℕ) → List ℕ
behind parts = fold (λ (done part : List ℕ). (46 ∷ part) ++ done) [] parts

-- a type of the references has the full name of another of them
pub record HasNameOfAnother (types : List TypeRow) (t : ℕ) : Type 0 where
  pub reference : IsReference types t
  pub name : List ℕ
  pub is : IsFullName types t name
  pub other : ℕ
  pub apart : other ≢ t
  pub other_reference : IsReference types other
  pub other_is : IsFullName types other name

-- the full names of the first so many types, as far as they are types of the references
pub record AreNames (types : List TypeRow) (count : ℕ) (names : List (List ℕ)) : Type 0 where
  pub long : length names ≡ count
  pub named : (t : ℕ) (name : List ℕ) → slice_get names t ≡ Some name → IsReference types t → IsFullName types t name
