-- Names with dots between them (ECMA-334, 7.8.2).
use Rattle.std.specs.Prelude.{ℕ, List, [], ◌∷◌}
use Rattle.class_rows.specs.Names.{dotted}

-- the names behind a front
abbrev pub joined_onto : List ℕ → List (List ℕ) → List ℕ
joined_onto front [] = front
joined_onto front (n ∷ names) = joined_onto (dotted front n) names

abbrev pub joined : List (List ℕ) → List ℕ
joined names = joined_onto [] names
