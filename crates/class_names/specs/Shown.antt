-- Inner facts: what no two types may share.
use Rattle.std.specs.Prelude.{◌≡◌, ℕ, List, length, true, Some, slice_get}
use Rattle.class_rows.specs.declared.row.TypeRow.{TypeRow}
use Rattle.class_rows.specs.Types.{HasType}
use Rattle.class_rows.specs.Names.{IsReference}
use Rattle.class_names.specs.declared.unique.Shown.{Shown}
use Rattle.class_names.specs.declared.unique.Shown.TheVariants.{Own, Reference}

-- what a type shows: its number where it is own, else its full name
abbrev pub IsShown : List TypeRow → List (List ℕ) → ℕ → Shown → Type 0
IsShown types names t (Own number) = (number ≡ t) × HasType types t (λ row. row.own ≡ true)
IsShown types names t (Reference name) = IsReference types t × (slice_get names t ≡ Some name.now)

-- the same of the first so many types
pub record AreShown (types : List TypeRow) (names : List (List ℕ)) (count : ℕ) (keys : List Shown) : Type 0 where
  pub long : length keys ≡ count
  pub shown : (t : ℕ) (key : Shown) → slice_get keys t ≡ Some key → IsShown types names t key
