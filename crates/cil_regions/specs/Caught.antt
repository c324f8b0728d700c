-- The regions about the rethrows of some code, one place after another.
use Rattle.std.specs.Prelude.{◌≡◌, ◌≢◌, ℕ, ◌<◌, Bool, false, Option, Some, None, List, length, take, slice_index_or, All, MatchBool}
use Rattle.cil_regions.specs.declared.region.RegionKind.TheVariants.{Try}
use Rattle.cil_regions.specs.declared.region.Region.{Region}
use Rattle.cil_regions.specs.declared.rethrow.Standing.{Standing}
use Rattle.cil_regions.specs.Region.{IsCatchKind}
use Rattle.cil_regions.specs.Laid.{AreBegun, IsReaching, Handles}

-- for each of the first n nodes, whether the innermost that is no try, from itself outwards, is a catch
pub record AreCatching (nodes : List Region) (n : ℕ) (catching : List Bool) : Type 0 where
  pub as_many : length catching ≡ n
  pub tries : (k : ℕ) (d : Region) → k < n → (slice_index_or nodes k d).kind ≡ Try → slice_index_or catching k false ≡ slice_index_or catching (slice_index_or nodes k d).parent false
  pub others : (k : ℕ) (d : Region) → k < n → (slice_index_or nodes k d).kind ≢ Try → MatchBool (slice_index_or catching k false) (IsCatchKind (slice_index_or nodes k d).kind) (IsCatchKind (slice_index_or nodes k d).kind → ⊥)

-- so many nodes begin by the place, and of those this is the last that ends behind it
pub record IsStanding (nodes : List Region) (s : Standing) : Type 0 where
  pub begun : AreBegun nodes s.place s.begun
  pub reaching : IsReaching (take s.begun nodes) s.place s.at

-- the innermost node about the place, if one holds it
abbrev pub IsInnermost : List Region → ℕ → Option Standing → Type 0
IsInnermost nodes place None = All (λ node. Handles node place → ⊥) nodes
IsInnermost nodes place (Some s) = IsStanding nodes s × (s.place ≡ place)

-- if just these nodes begin by its place
abbrev pub Stays : List Region → Standing → Type 0
Stays front s = s.begun ≡ length front → IsReaching front s.place s.at
