-- What is still to be found, as lists.
use Rattle.std.specs.Prelude.{ℕ, List, [], ◌∷◌, ◌++◌, Bool, filter}
use Rattle.class_rows.specs.declared.row.MemberRow.{MemberRow}
use Rattle.class_index.specs.Order.{IsIndex}
use Rattle.class_alike.specs.declared.named.Named.{Named}
use Rattle.class_search.specs.Left.{CanSearch, types_left}
use Rattle.class_lookup.specs.declared.rest.Rest.{Rest}
use Rattle.class_lookup.specs.declared.found.Found.{Found}
use Rattle.class_lookup.specs.Stand.{may_stand, known_in}

-- what a look-up finds in one type, and in types in turn
abbrev pub found_in : List MemberRow → List Bool → List ℕ → ℕ → List ℕ
found_in members nameless name t = filter (may_stand members nameless) (known_in members name t)

abbrev pub all_found : List MemberRow → List Bool → List ℕ → List ℕ → List ℕ
all_found members nameless name [] = []
all_found members nameless name (t ∷ ts) = found_in members nameless name t ++ all_found members nameless name ts

abbrev pub rest_left : List MemberRow → Named → List ℕ → Rest → List ℕ
rest_left members named name rest =
    filter (may_stand members named.nameless) rest.those.now ++ all_found members named.nameless name (types_left rest.search)

abbrev pub found_left : Found → List ℕ
found_left found = rest_left found.members.now found.named.now found.name.now found.rest

-- the tables that are searched are right
pub record CanFind (found : Found) : Type 0 where
  pub search : CanSearch found.rest.search
  pub index : IsIndex found.members.now found.named.now.index.order
