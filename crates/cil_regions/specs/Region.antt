-- The regions of a body's code (ECMA-335 I.12.4.2.7, II.19): sets of ranges, and how they lie in one another.
use Rattle.std.specs.Prelude.{◌≡◌, ◌⊎◌, ℕ, ◌+◌, ◌<◌, ◌≤◌, Bool, true, false, not, ◌&&◌, ◌||◌, ◌==◌, nat_lt, nat_le, if◌then◌else◌, List, [], ◌∷◌, ◌++◌, length, slice_index_or, unwrap_or, position, count_by, All, AllPairs, Contains, IsTrue, IsPermutation}
use Rattle.std.specs.List.{flat_map, enumerate_from}
use Rattle.dc_base.specs.declared.failure.Or.{Or}
use Rattle.dc_base.specs.declared.failure.Or.TheVariants.{NoMemory, Fault}
use Rattle.cil_instruction.specs.declared.opcode.Op.TheVariants.{Rethrow}
use Rattle.cil_body.specs.declared.body.Body.{Body}
use Rattle.cil_instruction.specs.declared.instruction.Instr.{Instr}
use Rattle.cil_body.specs.declared.body.Clause.{Clause}
use Rattle.cil_body.specs.declared.body.ClauseKind.{ClauseKind}
use Rattle.cil_body.specs.declared.body.ClauseKind.TheVariants.{Catch, Finally}
use Rattle.cil_regions.specs.declared.region.RegionKind.{RegionKind}
use Rattle.cil_regions.specs.declared.region.RegionKind.TheVariants.{Code, Try, Catch as CatchOf, Finally as FinallyOf}
use Rattle.cil_regions.specs.declared.region.Region.{Region}
use Rattle.cil_regions.specs.declared.region.RegionTree.{RegionTree}
use Rattle.cil_regions.specs.declared.region.RegionFault.{RegionFault}
use Rattle.cil_regions.specs.declared.region.RegionFault.TheVariants.{Nest, RethrowPlace, TooDeep}
use Rattle.cil_regions.specs.declared.region.Span.{Span}
use Rattle.dc_causes.specs.First.{IsFirstOff}

abbrev pub is_catch : ClauseKind → Bool
is_catch Catch = true
is_catch Finally = false

-- two clauses have one try: they are catches over one range
abbrev pub shares_try : Clause → Clause → Bool
shares_try c d = is_catch c.kind && is_catch d.kind && (c.try_at == d.try_at) && (c.try_len == d.try_len)

-- the number of the first clause that has the same try as the clause of number i
abbrev pub first_of : List Clause → ℕ → Clause → ℕ
first_of clauses i c = unwrap_or (position (shares_try c) clauses) i

abbrev pub handler_kind : Clause → ClauseKind → RegionKind
handler_kind c Catch = CatchOf c.class
handler_kind c Finally = FinallyOf

-- the try of a clause, and its handler
abbrev pub try_of : List Clause → ℕ → Clause → Span
try_of clauses i c =
    record { kind = Try; from = c.try_at; to = c.try_at + c.try_len; first = first_of clauses i c }

abbrev pub handler_of : ℕ → Clause → Span
handler_of i c =
    record { kind = handler_kind c c.kind; from = c.handler_at; to = c.handler_at + c.handler_len; first = i }

-- the regions that a clause begins: its try, where it is the first clause of it, and its handler
abbrev pub begun_by : List Clause → ℕ × Clause → List Span
begun_by clauses e =
    (if first_of clauses e.0 e.1 == e.0 then try_of clauses e.0 e.1 ∷ [] else []) ++ handler_of e.0 e.1 ∷ []

-- the whole code, which counts as having a later clause than any
abbrev pub whole_code : Body → Span
whole_code body = record { kind = Code; from = 0; to = body.size; first = length body.clauses }

-- all regions of the body, each once
abbrev pub spans_of : Body → List Span
spans_of body = whole_code body ∷ flat_map (begun_by body.clauses) (enumerate_from 0 body.clauses)

-- the range of r lies in the range of s
abbrev pub lies_in : Span → Span → Bool
lies_in r s = nat_le s.from r.from && nat_le r.to s.to

abbrev pub is_try : RegionKind → Bool
is_try Try = true
is_try _ = false

-- Of two regions with one range, s is outside r where its first clause comes later. Of a try and the handler of its own
-- first clause it is the try.
abbrev pub is_later : Span → Span → Bool
is_later r s = nat_lt r.first s.first || ((r.first == s.first) && is_try s.kind && not (is_try r.kind))

-- r stands inside s
abbrev pub is_inside : Span → Span → Bool
is_inside r s = lies_in r s && (not (lies_in s r) || is_later r s)

-- the ranges are disjoint, or one lies in the other
abbrev pub AreLaminar : Span → Span → Type 0
AreLaminar r s = (r.to ≤ s.from) ⊎ (s.to ≤ r.from) ⊎ IsTrue (lies_in r s) ⊎ IsTrue (lies_in s r)

-- a region that begins at this place crosses another one
abbrev pub CrossesAt : List Span → ℕ → Type 0
CrossesAt spans place =
    (r : Span) × (s : Span) × Contains spans r × Contains spans s × (r.from ≡ place) × (AreLaminar r s → ⊥)

-- p is the innermost of the regions that r stands inside
pub record IsParent (spans : List Span) (r p : Span) : Type 0 where
  pub among : Contains spans p
  pub inside : IsTrue (is_inside r p)
  pub innermost : (q : Span) → Contains spans q → IsTrue (is_inside r q) → (q ≡ p) ⊎ IsTrue (is_inside p q)

-- the body has this clause under this number
abbrev pub HasClause : Body → ℕ → Clause → Type 0
HasClause body i c = (i < length body.clauses) × (slice_index_or body.clauses i c ≡ c)

-- the clause's try and its handler have one parent
abbrev pub ShareParent : Body → ℕ → Clause → Type 0
ShareParent body i c =
    (p : Span) × IsParent (spans_of body) (try_of body.clauses i c) p × IsParent (spans_of body) (handler_of i c) p

-- a try or a handler that begins at this place has another parent than its partner
abbrev pub IsLooseAt : Body → ℕ → Type 0
IsLooseAt body place =
    (i : ℕ) × (c : Clause) × HasClause body i c × (ShareParent body i c → ⊥) × ((place ≡ c.try_at) ⊎ (place ≡ c.handler_at))

-- this is the least place at which the fact holds
abbrev pub IsLeast : (ℕ → Type 0) → ℕ → Type 0
IsLeast Fact place = Fact place × ((p : ℕ) → p < place → Fact p → ⊥)

-- any two of the regions are laminar
abbrev pub IsLaminar : Body → Type 0
IsLaminar body = (place : ℕ) → CrossesAt (spans_of body) place → ⊥

-- besides, each try has the parent of its handlers
abbrev pub IsNested : Body → Type 0
IsNested body = IsLaminar body × ((place : ℕ) → IsLooseAt body place → ⊥)

abbrev pub IsBadNest : Body → ℕ → Type 0
IsBadNest body place =
    IsLeast (CrossesAt (spans_of body)) place ⊎ (IsLaminar body × IsLeast (IsLooseAt body) place)

-- the place stands in the region
abbrev pub Holds : Span → ℕ → Type 0
Holds r place = (r.from ≤ place) × (place < r.to)

abbrev pub IsCatchKind : RegionKind → Type 0
IsCatchKind (CatchOf class) = Unit {0}
IsCatchKind _ = ⊥

-- the place stands in a catch, and in no finally inside that catch (ECMA-335 III.4.24)
abbrev pub IsInCatch : List Span → ℕ → Type 0
IsInCatch spans place =
    (c : Span) × Contains spans c × IsCatchKind c.kind × Holds c place
    × ((f : Span) → Contains spans f → f.kind ≡ FinallyOf → Holds f place → IsTrue (is_inside f c) → ⊥)

-- an instruction other than a rethrow, or a rethrow in a catch
abbrev pub IsRethrowFine : List Span → ℕ × Instr → Type 0
IsRethrowFine spans e = e.1.op ≡ Rethrow → IsInCatch spans e.0

abbrev pub IsBadRethrow : Body → ℕ → Type 0
IsBadRethrow body place =
    (e : ℕ × Instr) × IsFirstOff (IsRethrowFine (spans_of body)) body.code e × (place ≡ e.0)

-- how many regions a region stands inside
abbrev pub depth_of : List Span → Span → ℕ
depth_of spans r = count_by (is_inside r) spans

-- how many they may be
abbrev pub depth_limit : ℕ
depth_limit = 40

-- a region that begins at this place stands inside more
abbrev pub IsDeepAt : Body → ℕ → Type 0
IsDeepAt body place =
    (r : Span) × Contains (spans_of body) r × (r.from ≡ place) × (depth_limit < depth_of (spans_of body) r)

-- r begins before s, or where s does and holds it
abbrev pub ComesBefore : Span → Span → Type 0
ComesBefore r s = (r.from < s.from) ⊎ ((r.from ≡ s.from) × IsTrue (is_inside s r))

-- The node is the region of this number, and its parent is, for the whole code, that itself.
pub record IsNode (spans : List Span) (k : ℕ) (r : Span) (node : Region) : Type 0 where
  pub kind : node.kind ≡ r.kind
  pub from : node.from ≡ r.from
  pub to : node.to ≡ r.to
  pub first : k ≡ 0 → node.parent ≡ 0
  pub parent : 0 < k → (node.parent < k) × IsParent spans r (slice_index_or spans node.parent r)

-- the nodes are all regions of the body, each once and in order
pub record AreNodes (body : Body) (nodes : List Region) : Type 0 where
  pub spans : List Span
  pub all : IsPermutation (spans_of body) spans
  pub ordered : AllPairs ComesBefore spans
  pub as_many : length nodes ≡ length spans
  pub each : (k : ℕ) (r : Span) (node : Region) → k < length spans → IsNode spans k (slice_index_or spans k r) (slice_index_or nodes k node)

-- the body's regions make this tree
pub record IsRegionTree (body : Body) (tree : RegionTree) : Type 0 where
  pub nested : IsNested body
  pub rethrows : All (IsRethrowFine (spans_of body)) body.code
  pub shallow : (place : ℕ) → IsDeepAt body place → ⊥
  pub nodes : AreNodes body tree.nodes

-- What is wrong with a body whose regions make no tree. Each fault comes only where those listed before it don't.
abbrev pub IsRegionFault : Body → RegionFault → Type 0
IsRegionFault body (Nest place) = IsBadNest body place
IsRegionFault body (RethrowPlace place) = IsNested body × IsBadRethrow body place
IsRegionFault body (TooDeep place) =
    IsNested body × All (IsRethrowFine (spans_of body)) body.code × IsLeast (IsDeepAt body) place

-- the fault of a call, unless it wanted memory
abbrev pub IsRegionsRefused : Body → Or RegionFault → Type 0
IsRegionsRefused body NoMemory = Unit {0}
IsRegionsRefused body (Fault fault) = IsRegionFault body fault
