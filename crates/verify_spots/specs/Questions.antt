-- What is asked of the regions of a body, between two instructions.
use Rattle.std.specs.Prelude.{◌≡◌, ◌≢◌, ℕ, ◌<◌, Bool, true, false, List, length, slice_index_or, Contains}
use Rattle.cil_body.specs.declared.body.Body.{Body}
use Rattle.cil_regions.specs.declared.region.RegionKind.TheVariants.{Code, Finally}
use Rattle.cil_body.specs.declared.body.Clause.{Clause}
use Rattle.cil_regions.specs.Region.{try_of, handler_of}
use Rattle.cil_regions.specs.declared.region.Region.{Region}
use Rattle.cil_regions.specs.declared.region.Span.{Span}
use Rattle.cil_rows.specs.declared.row.Row.{Row}
use Rattle.verify_rules.specs.declared.setting.Setting.{Setting}
use Rattle.verify_spots.specs.Spots.{IsTry, IsHandler, IsFirstOf, StandsIn, Crosses, IsInnermost, IsRow, IsAimed, CallsConstructor}
use Rattle.verify_spots.specs.declared.region.Question.{Question}
use Rattle.verify_spots.specs.declared.region.Question.TheVariants as asked

abbrev pub Asks : Body → Question → ℕ → ℕ → Span → Type 0
Asks body asked.BeginsTry i j r = IsTry r.kind × IsFirstOf body r i
Asks body asked.BeginsHandler i j r = IsHandler r.kind × IsFirstOf body r i
Asks body asked.StandsIn i j r = (r.kind ≢ Code) × StandsIn body r i
Asks body asked.Crosses i j r = Crosses body i j r
Asks body asked.LeavesFinally i j r = (r.kind ≡ Finally) × StandsIn body r i × (StandsIn body r j → ⊥)
Asks body asked.EntersHandler i j r = IsHandler r.kind × (StandsIn body r i → ⊥) × StandsIn body r j
Asks body asked.EntersTryInside i j r = IsTry r.kind × (StandsIn body r i → ⊥) × StandsIn body r j × (IsFirstOf body r j → ⊥)

-- a node as a region
abbrev pub span_of : Region → Span
span_of node = record { kind = node.kind; from = node.from; to = node.to; first = 0 }

abbrev pub HasNode : (Span → Type 0) → List Region → Type 0
HasNode Fact nodes = (node : Region) × Contains nodes node × Fact (span_of node)

abbrev pub HasNoNode : (Span → Type 0) → List Region → Type 0
HasNoNode Fact nodes = (node : Region) → Contains nodes node → Fact (span_of node) → ⊥

-- the one instruction stands in the handler of a clause, and the other in its try
abbrev pub IsOwnTry : Body → List Clause → ℕ → Clause → ℕ → ℕ → Type 0
IsOwnTry body clauses n c i j = StandsIn body (handler_of n c) i × StandsIn body (try_of clauses n c) j

abbrev pub HasOwnTry : Body → List Clause → ℕ → ℕ → Type 0
HasOwnTry body clauses i j =
    (n : ℕ) × (c : Clause) × ((n < length clauses) × (slice_index_or clauses n c ≡ c))
    × StandsIn body (handler_of n c) i × StandsIn body (try_of clauses n c) j

-- among the nodes the last that holds the instruction, and that none holds it
abbrev pub IsLastRound : Body → List Region → ℕ → Region → Type 0
IsLastRound body nodes i node =
    (k : ℕ) × (k < length nodes) × (slice_index_or nodes k node ≡ node) × StandsIn body (span_of node) i
    × ((m : ℕ) (d : Region) → k < m → m < length nodes → StandsIn body (span_of (slice_index_or nodes m d)) i → ⊥)

abbrev pub HasNoneRound : Body → List Region → ℕ → Type 0
HasNoneRound body nodes i =
    (m : ℕ) (d : Region) → m < length nodes → StandsIn body (span_of (slice_index_or nodes m d)) i → ⊥

-- the innermost region round an instruction is no finally
abbrev pub EndsNoFinally : Body → ℕ → Type 0
EndsNoFinally body i = (r : Span) × IsInnermost body i r × (r.kind ≢ Finally)

-- the first call of a constructor, and that there is none
abbrev pub IsFirstCall : Setting → ℕ → Type 0
IsFirstCall s i =
    ((row : Row) × IsRow s i row × CallsConstructor s row)
    × ((k : ℕ) (row : Row) → k < i → IsRow s k row → CallsConstructor s row → ⊥)

abbrev pub HasNoCall : Setting → Type 0
HasNoCall s = (k : ℕ) (row : Row) → IsRow s k row → CallsConstructor s row → ⊥

-- of each instruction whether one aims at it
pub record AreMarked (s : Setting) (marks : List Bool) : Type 0 where
  pub as_many : length marks ≡ length s.rows.now
  pub some : (i : ℕ) → slice_index_or marks i false ≡ true → IsAimed s i
  pub all : (i : ℕ) → i < length marks → IsAimed s i → slice_index_or marks i false ≡ true
