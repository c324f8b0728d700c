-- Types by their names (ECMA-335 II.22.37, II.22.38): a type is known by where it stands, its namespace and its name.
use Rattle.std.specs.Prelude.{ℕ, ◌+◌, List, [], ◌∷◌, Bool, true, false, ◌==◌, ◌&&◌, Option, Some, None, cond}
use Rattle.std.specs.Str.{bytes_eq}
use Rattle.cli_scopes.specs.declared.name.Within.{Within}
use Rattle.cli_scopes.specs.declared.name.Within.TheVariants.{References, Own, InType}
use Rattle.cli_scopes.specs.declared.name.TypeName.{TypeName}

abbrev pub is_within : Within → Within → Bool
is_within References References = true
is_within Own Own = true
is_within (InType t) (InType u) = t.0 == u.0
is_within _ _ = false

-- two types are known by one name
abbrev pub is_name : TypeName → TypeName → Bool
is_name a b = is_within a.within b.within && (bytes_eq a.space.now b.space.now && bytes_eq a.name.now b.name.now)

-- the number of the first of some types, counted from `k` on, that has this name
abbrev pub first_from : ℕ → List TypeName → TypeName → Option ℕ
first_from k [] name = None
first_from k (n ∷ names) name = cond (is_name n name) (Some k) (first_from (k + 1) names name)

abbrev pub first_of : List TypeName → TypeName → Option ℕ
first_of names name = first_from 0 names name
