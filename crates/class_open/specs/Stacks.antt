-- Inner facts: the numbers of a list, the innermost first, in stacks by their signs.
use Rattle.std.specs.Prelude.{◌≡◌, ◌⊎◌, ◌↔◌, ℕ, ◌<◌, List, [], ◌∷◌, ◌++◌, Bool, true, Option, Some, None, length, slice_get, Contains}
use Rattle.class_rows.specs.declared.row.MemberRow.{MemberRow}
use Rattle.class_rows.specs.Members.{IsOf}
use Rattle.class_open.specs.Trail.{Has}

-- no number stands twice
abbrev pub AreOnce : List ℕ → Type 0
AreOnce [] = Unit {0}
AreOnce (m ∷ trail) = (Has trail m → ⊥) × AreOnce trail

-- from a number, or none, lead those of the list that have this sign, in their order
abbrev pub Leads : List ℕ → List (Option ℕ) → ℕ → List ℕ → Option ℕ → Type 0
Leads signs below s [] from_ = from_ ≡ None
Leads signs below s (m ∷ trail) from_ =
    ((slice_get signs m ≡ Some s → ⊥) × Leads signs below s trail from_)
    ⊎ ((slice_get signs m ≡ Some s) × (from_ ≡ Some m) × (o : Option ℕ) × (slice_get below m ≡ Some o) × Leads signs below s trail o)

-- from each sign's top lead those of its sign
pub record AreStacked (signs : List ℕ) (tops below : List (Option ℕ)) (trail : List ℕ) : Type 0 where
  pub small : (m s : ℕ) → slice_get signs m ≡ Some s → s < length tops
  pub long : length below ≡ length signs
  pub within : (m : ℕ) → Has trail m → m < length signs
  pub once : AreOnce trail
  pub leads : (s : ℕ) (top : Option ℕ) → slice_get tops s ≡ Some top → Leads signs below s trail top

-- a number came to the front, if its flag is up
abbrev pub IsOneMore : List Bool → ℕ → List ℕ → List ℕ → Type 0
IsOneMore picks m before after =
    ((slice_get picks m ≡ Some true) × (after ≡ m ∷ before)) ⊎ ((slice_get picks m ≡ Some true → ⊥) × (after ≡ before))

-- of these numbers those came whose flag is up
abbrev pub AreMore : List Bool → List ℕ → List ℕ → List ℕ → Type 0
AreMore picks own before after =
    (mine : List ℕ) × (after ≡ mine ++ before) × ((m : ℕ) → Has mine m ↔ (Contains own m × (slice_get picks m ≡ Some true)))

-- the first number isn't one of this type's members
abbrev pub IsClearOf : List MemberRow → ℕ → List ℕ → Type 0
IsClearOf members t [] = Unit {0}
IsClearOf members t (m ∷ trail) = IsOf members t m → ⊥

-- the foremost numbers went, as far as they are members of this type
abbrev pub AreLess : List MemberRow → ℕ → List ℕ → List ℕ → Type 0
AreLess members t before after =
    (gone : List ℕ) × (before ≡ gone ++ after) × ((m : ℕ) → Has gone m → IsOf members t m) × IsClearOf members t after
