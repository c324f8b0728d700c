-- Inner facts of the walk; nobody needs to believe them.
use Rattle.std.specs.Prelude.{◌≡◌, ℕ, List, length, slice_get, Bool, true, false, cond, Option, Some, None}
use Rattle.std.specs.Option.{option_map}
use Rattle.dc_base.specs.declared.names.TypeId.{TypeId}
use Rattle.cli_scopes.specs.declared.name.Within.{Within}
use Rattle.cli_scopes.specs.declared.name.Within.TheVariants.{References as InReferences, Own as InOwn, InType}
use Rattle.cli_scopes.specs.declared.name.TypeName.{TypeName}
use Rattle.cli_scopes.specs.declared.refs.Scope.{Scope}
use Rattle.cli_scopes.specs.declared.refs.Scope.TheVariants.{References, Own, InRef, Nowhere}
use Rattle.cli_scopes.specs.declared.refs.TypeRef.{TypeRef}
use Rattle.cli_scopes.specs.declared.walk.Mark.{Mark}
use Rattle.cli_scopes.specs.declared.walk.Mark.TheVariants.{New, Walked, Known}
use Rattle.cli_scopes.specs.Names.{first_of}
use Rattle.cli_scopes.specs.Meant.{IsMeant}

abbrev pub known_of : Mark → Option TypeId
known_of (Known found) = found
known_of _ = None

abbrev pub is_new : Option Mark → Bool
is_new (Some New) = true
is_new _ = false

abbrev pub is_new_at : List Mark → ℕ → Bool
is_new_at marks k = is_new (slice_get marks k)

abbrev pub new_in : List Mark → Scope → Option ℕ
new_in marks (InRef above) = cond (is_new_at marks above) (Some above) None
new_in marks _ = None

abbrev pub new_above_row : List Mark → Option TypeRef → Option ℕ
new_above_row marks None = None
new_above_row marks (Some row) = new_in marks row.scope

-- the row that a row stands in, where no walk has met it
abbrev pub new_above : List TypeRef → List Mark → ℕ → Option ℕ
new_above refs marks at = new_above_row marks (slice_get refs at)

abbrev pub type_id : ℕ → TypeId
type_id t = record { 0 = t }

abbrev pub first_in : List TypeName → Within → TypeRef → Option TypeId
first_in names within row = option_map type_id (first_of names (record { within = within; space = row.space; name = row.name }))

abbrev pub known_at : Option Mark → Option TypeId
known_at None = None
known_at (Some mark) = known_of mark

abbrev pub first_inside : List TypeName → Option TypeId → TypeRef → Option TypeId
first_inside names None row = None
first_inside names (Some outer) row = first_in names (InType outer) row

abbrev pub answer_in : List TypeName → List Mark → TypeRef → Scope → Option TypeId
answer_in names marks row References = first_in names InReferences row
answer_in names marks row Own = first_in names InOwn row
answer_in names marks row (InRef above) = first_inside names (known_at (slice_get marks above)) row
answer_in names marks row Nowhere = None

abbrev pub answer_row : List TypeName → List Mark → Option TypeRef → Option TypeId
answer_row names marks None = None
answer_row names marks (Some row) = answer_in names marks row row.scope

-- what a row means by what is known of the one that it stands in
abbrev pub answer : List TypeName → List TypeRef → List Mark → ℕ → Option TypeId
answer names refs marks at = answer_row names marks (slice_get refs at)

-- what is known is right
abbrev pub AreRight : List TypeName → List TypeRef → List Mark → Type 0
AreRight names refs marks = (s : ℕ) (found : Option TypeId) → slice_get marks s ≡ Some (Known found) → IsMeant names refs s found

-- no walk is under way
abbrev pub NoneIsWalked : List Mark → Type 0
NoneIsWalked marks = (s : ℕ) → slice_get marks s ≡ Some Walked → ⊥

-- between two walks
pub record IsBetween (names : List TypeName) (refs : List TypeRef) (marks : List Mark) : Type 0 where
  pub long : length marks ≡ length refs
  pub right : AreRight names refs marks
  pub unwalked : NoneIsWalked marks

-- what was met stays so
abbrev pub StayMet : List Mark → List Mark → Type 0
StayMet before after = (s : ℕ) → slice_get after s ≡ Some New → slice_get before s ≡ Some New

-- a walk from here was made to its end
pub record IsSettled (names : List TypeName) (refs : List TypeRef) (root : ℕ) (before after : List Mark) : Type 0 where
  pub between : IsBetween names refs after
  pub met : slice_get after root ≡ Some New → ⊥
  pub stay : StayMet before after
