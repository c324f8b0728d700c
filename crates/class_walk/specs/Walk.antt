-- A walk over the tree of bases.
use Rattle.std.specs.Prelude.{◌≡◌, ℕ, ◌<◌, ◌≤◌, List, [], ◌∷◌, Some, length, slice_get}
use Rattle.class_rows.specs.declared.row.TypeRow.{TypeRow}
use Rattle.class_rows.specs.Types.{IsBase}
use Rattle.class_walk.specs.declared.walk.Step.{Step}
use Rattle.class_walk.specs.declared.walk.Step.TheVariants.{Enter, Leave}

-- A type stands directly below the innermost one of a path. Below an empty path its base isn't there.
abbrev pub IsBelow : List TypeRow → List ℕ → ℕ → Type 0
IsBelow types [] t = (b : ℕ) → IsBase types t b → length types ≤ b
IsBelow types (b ∷ path) t = IsBase types t b

-- the steps from an open path, innermost first, until all is left
abbrev pub IsWalk : List TypeRow → List ℕ → List Step → Type 0
IsWalk types path [] = path ≡ []
IsWalk types path (Enter t ∷ rest) = IsBelow types path t.0 × IsWalk types (t.0 ∷ path) rest
IsWalk types [] (Leave t ∷ rest) = ⊥
IsWalk types (u ∷ path) (Leave t ∷ rest) = (u ≡ t.0) × IsWalk types path rest

-- a step at this place enters the type
abbrev pub EntersAt : List Step → ℕ → ℕ → Type 0
EntersAt steps k t = slice_get steps k ≡ Some (Enter (record { 0 = t }))

-- a walk that enters each type, and none twice
pub record IsWholeWalk (types : List TypeRow) (steps : List Step) : Type 0 where
  pub walk : IsWalk types [] steps
  pub whole : (t : ℕ) → t < length types → (k : ℕ) × EntersAt steps k t
  pub once : (j k t : ℕ) → EntersAt steps j t → EntersAt steps k t → j ≡ k
