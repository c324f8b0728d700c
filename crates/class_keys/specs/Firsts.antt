-- Where each key of a list stands first.
use Rattle.std.specs.Prelude.{◌≡◌, ℕ, Bool, true, List, Some, length, slice_get}
use Rattle.dc_causes.specs.First.{IsLeast}

-- the key at this index stands at that one too
pub record IsAlsoAt {K : Type 0} (eq : K → K → Bool) (keys : List K) (n other : ℕ) : Type 0 where
  pub key : K
  pub stands : slice_get keys n ≡ Some key
  pub twin : K
  pub other_stands : slice_get keys other ≡ Some twin
  pub equal : eq key twin ≡ true

-- for each index the least at which the same key stands
pub record AreFirsts {K : Type 0} (eq : K → K → Bool) (keys : List K) (firsts : List ℕ) : Type 0 where
  pub long : length firsts ≡ length keys
  pub first : (n f : ℕ) → slice_get firsts n ≡ Some f → IsLeast (IsAlsoAt eq keys n) f
