-- Inner facts of the walk; nobody needs to believe them.
use Rattle.std.specs.Prelude.{◌≡◌, ◌⊎◌, ℕ, ◌+◌, ◌<◌, ◌≤◌, Bool, true, false, List, length, slice_get, Some, None}
use Rattle.class_chains.specs.declared.walk.Mark.{Mark}
use Rattle.class_chains.specs.declared.walk.Mark.TheVariants.{New, Walked, Ends as EndsMark}
use Rattle.class_chains.specs.declared.walk.Visit.{Visit}
use Rattle.class_chains.specs.declared.walk.Next.{Next}
use Rattle.class_chains.specs.declared.walk.Next.TheVariants.{Finished, Ended, Round, Fresh}
use Rattle.class_chains.specs.Ends.{Ends, IsWay, ways_of}

-- a number that is past the list, or stands in the order
abbrev pub IsKnown : List (List ℕ) → List ℕ → ℕ → Type 0
IsKnown ways order b = (length ways ≤ b) ⊎ ((k : ℕ) × (slice_get order k ≡ Some b))

-- what stands in the order so far
pub record IsOrderSoFar (ways : List (List ℕ)) (order : List ℕ) : Type 0 where
  pub within : (k t : ℕ) → slice_get order k ≡ Some t → t < length ways
  pub above : (k t b : ℕ) → slice_get order k ≡ Some t → IsWay ways t b → b < length ways → (j : ℕ) × (j < k) × (slice_get order j ≡ Some b)

-- whatever is marked so ends, and stands in the order
abbrev pub MarksEnds : List (List ℕ) → List ℕ → List Mark → Type 0
MarksEnds ways order marks =
    (s : ℕ) → slice_get marks s ≡ Some EndsMark → Ends (IsWay ways) s × ((k : ℕ) × (slice_get order k ≡ Some s))

-- no walk is under way
abbrev pub NoneIsWalked : List Mark → Type 0
NoneIsWalked marks = (s : ℕ) → slice_get marks s ≡ Some Walked → ⊥

-- between two walks
pub record IsBetween (ways : List (List ℕ)) (order : List ℕ) (marks : List Mark) : Type 0 where
  pub long : length marks ≡ length ways
  pub known : MarksEnds ways order marks
  pub unwalked : NoneIsWalked marks
  pub ordered : IsOrderSoFar ways order

-- where the next way of a visit leads
abbrev pub IsNext : List (List ℕ) → List Mark → Visit → Next → Type 0
IsNext ways marks visit Finished = length (ways_of ways visit.at) ≤ visit.passed
IsNext ways marks visit (Ended passed) =
    (b : ℕ) × (passed ≡ visit.passed + 1) × (slice_get (ways_of ways visit.at) visit.passed ≡ Some b)
    × ((slice_get marks b ≡ None) ⊎ (slice_get marks b ≡ Some EndsMark))
IsNext ways marks visit Round =
    (b : ℕ) × (slice_get (ways_of ways visit.at) visit.passed ≡ Some b) × (slice_get marks b ≡ Some Walked)
IsNext ways marks visit (Fresh b) =
    (slice_get (ways_of ways visit.at) visit.passed ≡ Some b) × (slice_get marks b ≡ Some New)

-- a walk from here was made to its end, or has shown that a chain goes on for ever
abbrev pub WalkEnds : List (List ℕ) → ℕ → List ℕ → List ℕ → List Mark → Bool → Type 0
WalkEnds ways root before order marks true =
    IsBetween ways order marks × Ends (IsWay ways) root × ((k : ℕ) × (slice_get order k ≡ Some root))
    × ((s k : ℕ) → slice_get before k ≡ Some s → slice_get order k ≡ Some s)
WalkEnds ways root before order marks false = Ends (IsWay ways) root → ⊥
