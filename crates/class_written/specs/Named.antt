-- The types of a text by their full names (ECMA-334, 7.8.1).
use Rattle.std.specs.Prelude.{ℕ, ◌+◌, List, [], ◌∷◌, Option, None, Some, cond, map, unwrap_or}
use Rattle.std.specs.Str.{bytes_eq}
use Rattle.class_rows.specs.declared.row.Kind.{Kind}

-- the number of the first of some names, counted from `k` on, that is this one
abbrev pub number_from : ℕ → List (List ℕ) → List ℕ → Option ℕ
number_from k [] name = None
number_from k (n ∷ names) name = cond (bytes_eq n name) (Some k) (number_from (k + 1) names name)

-- a type: its full name, and what it is
pub record Known : Type 0 where
  pub full : List ℕ
  pub kind : Kind

abbrev pub names_of : List Known → List (List ℕ)
names_of types = map (λ (k : Known). k.full) types

-- the type with this full name
abbrev pub number_of : List Known → List ℕ → Option ℕ
number_of types name = number_from 0 (names_of types) name

-- a number that no list of rows has, and so names nothing
abbrev pub nothing : ℕ
nothing = 0xFFFFFFFF

abbrev pub named : List Known → List ℕ → ℕ
named types name = unwrap_or (number_of types name) nothing
