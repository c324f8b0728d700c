-- Where instructions stand among the regions of a body, and where they may lead (ECMA-335 I.12.4.2.8, III.1.7.5, III.3.15,
-- III.3.35, III.3.46, III.3.57). A region is a range of places; instructions go by their numbers.
use Rattle.std.specs.Prelude.{◌≡◌, ◌≢◌, ◌⊎◌, ◌↔◌, ℕ, ◌+◌, ◌<◌, Bool, true, false, List, Option, Some, None, length, slice_get, Contains, IsTrue}
use Rattle.dc_base.specs.declared.names.MemberId.{MemberId}
use Rattle.class_rows.specs.declared.row.Kind.TheVariants.{Class}
use Rattle.class_rows.specs.declared.row.MemberRow.{MemberRow}
use Rattle.class_rows.specs.declared.row.Sort.TheVariants.{Constructor}
use Rattle.class_rows.specs.Members.{sort_of}
use Rattle.cil_body.specs.declared.body.Body.{Body}
use Rattle.cil_body.specs.declared.body.Clause.{Clause}
use Rattle.cil_regions.specs.declared.region.RegionKind.{RegionKind}
use Rattle.cil_regions.specs.declared.region.RegionKind.TheVariants.{Code, Try, Catch, Finally}
use Rattle.cil_regions.specs.declared.region.Span.{Span}
use Rattle.cil_regions.specs.Region.{spans_of, try_of, handler_of, is_inside, Holds, HasClause}
use Rattle.cil_rows.specs.declared.row.Row.{Row}
use Rattle.cil_rows.specs.declared.row.Row.TheVariants.{Return, Leave, EndFinally, Call}
use Rattle.cil_rows.specs.Code.{starts_of}
use Rattle.cil_rows.specs.Flow.{aims_of, goes_on}
use Rattle.verify_rules.specs.declared.setting.Setting.{Setting}
use Rattle.verify_rules.specs.declared.setting.Spot.{Spot}
use Rattle.verify_rules.specs.Look.{named_row, method_row}
use Rattle.verify_rules.specs.Puts.{owner_kind}
use Rattle.verify_rules.specs.Kinds.{IsSo}

-- the place where an instruction starts
abbrev pub IsPlace : Body → ℕ → ℕ → Type 0
IsPlace body i place = slice_get (starts_of body.code) i ≡ Some place

-- an instruction stands in a region
abbrev pub StandsIn : Body → Span → ℕ → Type 0
StandsIn body r i = (place : ℕ) × IsPlace body i place × Holds r place

-- an instruction is the first of a region
abbrev pub IsFirstOf : Body → Span → ℕ → Type 0
IsFirstOf body r i = IsPlace body i r.from

abbrev pub IsTry : RegionKind → Type 0
IsTry Try = Unit {0}
IsTry _ = ⊥

abbrev pub IsHandler : RegionKind → Type 0
IsHandler (Catch class) = Unit {0}
IsHandler Finally = Unit {0}
IsHandler _ = ⊥

-- a region of the body of which the fact holds
abbrev pub HasRegion : Body → (Span → Type 0) → Type 0
HasRegion body Fact = (r : Span) × Contains (spans_of body) r × Fact r

-- the instruction of this number is such a row
abbrev pub IsRow : Setting → ℕ → Row → Type 0
IsRow s i row = slice_get s.rows.now i ≡ Some row

-- a branch, a switch or a `leave` aims at it
abbrev pub IsAimed : Setting → ℕ → Type 0
IsAimed s i = (k : ℕ) × (row : Row) × IsRow s k row × Contains (aims_of row) i

abbrev pub BeginsTry : Body → ℕ → Type 0
BeginsTry body i = HasRegion body (λ r. IsTry r.kind × IsFirstOf body r i)

abbrev pub BeginsHandler : Body → ℕ → Type 0
BeginsHandler body i = HasRegion body (λ r. IsHandler r.kind × IsFirstOf body r i)

-- from the one instruction to the other a region is left, or entered otherwise than at the first instruction of a try
abbrev pub Crosses : Body → ℕ → ℕ → Span → Type 0
Crosses body i j r =
    (StandsIn body r i × (StandsIn body r j → ⊥))
    ⊎ ((StandsIn body r i → ⊥) × StandsIn body r j × ((IsTry r.kind × IsFirstOf body r j) → ⊥))

-- it goes on to where no instruction stands, or out of its region, or into a handler
abbrev pub FallsOff : Setting → Body → ℕ → Type 0
FallsOff s body i =
    (row : Row) × IsRow s i row × (goes_on row ≡ true)
    × ((slice_get s.rows.now (i + 1) ≡ None) ⊎ HasRegion body (Crosses body i (i + 1)))

-- A `leave` may lead out of tries and catches, and not out of a finally, into a handler, into the middle of a try, or from a
-- handler into its own try.
abbrev pub LeavesFinally : Body → ℕ → ℕ → Type 0
LeavesFinally body i j = HasRegion body (λ r. (r.kind ≡ Finally) × StandsIn body r i × (StandsIn body r j → ⊥))

abbrev pub EntersHandler : Body → ℕ → ℕ → Type 0
EntersHandler body i j = HasRegion body (λ r. IsHandler r.kind × (StandsIn body r i → ⊥) × StandsIn body r j)

abbrev pub EntersTryInside : Body → ℕ → ℕ → Type 0
EntersTryInside body i j =
    HasRegion body (λ r. IsTry r.kind × (StandsIn body r i → ⊥) × StandsIn body r j × (IsFirstOf body r j → ⊥))

abbrev pub EntersOwnTry : Body → ℕ → ℕ → Type 0
EntersOwnTry body i j =
    (n : ℕ) × (c : Clause) × HasClause body n c
    × StandsIn body (handler_of n c) i × StandsIn body (try_of body.clauses n c) j

abbrev pub LeavesWrongly : Body → ℕ → ℕ → Type 0
LeavesWrongly body i j =
    LeavesFinally body i j ⊎ EntersHandler body i j ⊎ EntersTryInside body i j ⊎ EntersOwnTry body i j

-- the innermost region round an instruction
abbrev pub IsInnermost : Body → ℕ → Span → Type 0
IsInnermost body i r =
    Contains (spans_of body) r × StandsIn body r i
    × ((q : Span) → Contains (spans_of body) q → StandsIn body q i → (q ≡ r) ⊎ IsTrue (is_inside r q))

-- what a row does that its regions don't let it: it leads where it may not, it leaves the method from inside a region, or it
-- ends a finally in which it doesn't stand innermost
abbrev pub JumpsWrongly : Body → ℕ → Row → Type 0
JumpsWrongly body i (Leave to) = LeavesWrongly body i to
JumpsWrongly body i Return = HasRegion body (λ r. (r.kind ≢ Code) × StandsIn body r i)
JumpsWrongly body i EndFinally = (r : Span) × IsInnermost body i r × (r.kind ≢ Finally)
JumpsWrongly body i row = (j : ℕ) × Contains (aims_of row) j × HasRegion body (Crosses body i j)

-- a handler that begins where the method does counts as jumped into
abbrev pub JumpsOff : Setting → Body → ℕ → Type 0
JumpsOff s body i =
    ((i ≡ 0) × BeginsHandler body i) ⊎ ((row : Row) × IsRow s i row × JumpsWrongly body i row)

-- the call of a constructor on `this` that ends the head of a constructor of a class: the first call of a constructor
abbrev pub IsConstructor : MemberRow → Type 0
IsConstructor row = (sort_of row.kind ≡ Constructor) × (row.is_static ≡ false)

abbrev pub CallsConstructor : Setting → Row → Type 0
CallsConstructor s (Call callee by_slot) = (by_slot ≡ false) × IsSo IsConstructor (named_row s callee)
CallsConstructor s _ = ⊥

abbrev pub IsOfClass : Setting → MemberRow → Type 0
IsOfClass s row = IsConstructor row × (owner_kind s row ≡ Some Class)

abbrev pub EndsHead : Setting → ℕ → Type 0
EndsHead s i =
    IsSo (IsOfClass s) (method_row s)
    × ((row : Row) × IsRow s i row × CallsConstructor s row)
    × ((k : ℕ) (row : Row) → k < i → IsRow s k row → CallsConstructor s row → ⊥)

-- what is said of where an instruction stands holds
pub record IsSpot (s : Setting) (body : Body) (i : ℕ) (spot : Spot) : Type 0 where
  pub number : spot.number ≡ i
  pub aim : (spot.is_aim ≡ true) ↔ IsAimed s i
  pub try_ : (spot.begins_try ≡ true) ↔ BeginsTry body i
  pub region : (spot.begins_region ≡ true) ↔ (BeginsTry body i ⊎ BeginsHandler body i)
  pub falls : (spot.falls_off ≡ true) ↔ FallsOff s body i
  pub jumps : (spot.jumps_off ≡ true) ↔ JumpsOff s body i
  pub head : (spot.ends_head ≡ true) ↔ EndsHead s i

-- one for each instruction
pub record AreSpots (s : Setting) (body : Body) (spots : List Spot) : Type 0 where
  pub as_many : length spots ≡ length s.rows.now
  pub each : (i : ℕ) (spot : Spot) → slice_get spots i ≡ Some spot → IsSpot s body i spot
