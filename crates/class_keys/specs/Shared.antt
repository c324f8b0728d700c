-- Keys that stand at two indices of a list.
use Rattle.std.specs.Prelude.{◌≡◌, ◌≢◌, ℕ, Bool, true, List, Some, slice_get}

-- another index, before this one or behind it, has an equal key
pub record IsShared {K : Type 0} (eq : K → K → Bool) (keys : List K) (n : ℕ) : Type 0 where
  pub key : K
  pub stands : slice_get keys n ≡ Some key
  pub other : ℕ
  pub apart : n ≢ other
  pub twin : K
  pub other_stands : slice_get keys other ≡ Some twin
  pub equal : eq key twin ≡ true
