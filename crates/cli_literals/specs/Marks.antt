-- Inner facts: which fields have a float, told by one look at each row of Constant.
use Rattle.std.specs.Prelude.{◌≡◌, ℕ, ◌+◌, ◌≤◌, ◌==◌, ◌||◌, nat_lt, cond, List, length, slice_get, slice_set, Option, Some, None, Bool, true}
use Rattle.dc_base.specs.declared.names.Token.{Token}
use Rattle.cli_metadata.specs.declared.tables.Table.TheVariants as tables
use Rattle.cli_metadata.specs.Metadata.{Contents, rows_of}
use Rattle.cli_constants.specs.Noted.{place_of}
use Rattle.cli_constants.specs.Owned.{constant_at, IsConstantOf}
use Rattle.cli_literals.specs.Fails.{IsFloat, HasFloat}

-- the place of the field whose constant is a float
abbrev pub float_place : ℕ → Option Token → Option ℕ
float_place element parent = cond ((element == 0x0C) || (element == 0x0D)) (place_of parent) None

abbrev pub marked_at : ℕ → List Bool → List Bool
marked_at place floats = cond (nat_lt place (length floats)) (slice_set floats place true) floats

abbrev pub marked : Option ℕ → List Bool → List Bool
marked None floats = floats
marked (Some place) floats = marked_at place floats

-- a field is marked where one of the first rows of Constant is its own and a float
pub record IsMarkedTo (m : Contents) (last f : ℕ) (mark : Bool) : Type 0 where
  pub yes_ : mark ≡ true → HasFloat m f
  pub all_ : (r : ℕ) → r ≤ last → IsConstantOf m f r → IsFloat (constant_at m r).element → mark ≡ true

pub record AreMarkedTo (m : Contents) (last : ℕ) (floats : List Bool) : Type 0 where
  pub long : length floats ≡ rows_of m tables.Field
  pub each : (k : ℕ) (mark : Bool) → slice_get floats k ≡ Some mark → IsMarkedTo m last (k + 1) mark

abbrev pub AreFloats : Contents → List Bool → Type 0
AreFloats m floats = AreMarkedTo m (rows_of m tables.Constant) floats

-- row r of Constant is there
pub record IsRow (m : Contents) (r : ℕ) : Type 0 where
  pub low : 1 ≤ r
  pub high : r ≤ rows_of m tables.Constant
