-- Regions in the order of their tree, and the nodes that they become.
use Rattle.std.specs.Prelude.{◌≡◌, ◌≢◌, ◌⊎◌, ℕ, ◌+◌, ◌<◌, ◌≤◌, Bool, Option, Some, None, List, [], ◌∷◌, ◌++◌, ◌==◌, if◌then◌else◌, length, slice_index, slice_index_or, AllPairs, IsPermutation}
use Rattle.cil_body.specs.declared.body.Body.{Body}
use Rattle.cil_body.specs.declared.body.Clause.{Clause}
use Rattle.cil_regions.specs.declared.region.RegionKind.TheVariants.{Code, Try}
use Rattle.cil_regions.specs.declared.region.Region.{Region}
use Rattle.cil_regions.specs.declared.region.Span.{Span}
use Rattle.cil_regions.specs.Region.{first_of, handler_of, spans_of, is_try, ComesBefore, AreLaminar, IsLeast, IsCatchKind, depth_limit}
use Rattle.dc_causes.specs.First.{IsFirstOff}
use Rattle.std.specs.List.Sorted.{IsNonDecreasingBy}
use Rattle.cil_instruction.specs.declared.opcode.Op.TheVariants.{Rethrow}
use Rattle.cil_instruction.specs.declared.instruction.Instr.{Instr}

-- for each clause, the number of the first one that has the same try
pub record AreFirsts (clauses : List Clause) (firsts : List ℕ) : Type 0 where
  pub as_many : length firsts ≡ length clauses
  pub each : (i : ℕ) (c : Clause) → i < length clauses → slice_index firsts i ≡ first_of clauses i (slice_index_or clauses i c)
  pub below : (i : ℕ) → i < length clauses → slice_index firsts i < length clauses

-- the regions that a clause begins, by its number and that of the first clause that has the same try
abbrev pub begun : ℕ → Clause → ℕ → List Span
begun i c first =
    (if first == i then record { kind = Try; from = c.try_at; to = c.try_at + c.try_len; first = first } ∷ [] else [])
    ++ handler_of i c ∷ []

-- Two regions with one number are a try and a handler.
abbrev pub DifferInName : Span → Span → Type 0
DifferInName r s = r.first ≡ s.first → is_try r.kind ≡ is_try s.kind → ⊥

-- the spans are all regions of the body, each once and in order
pub record AreOrdered (body : Body) (spans : List Span) : Type 0 where
  pub all : IsPermutation (spans_of body) spans
  pub ordered : AllPairs ComesBefore spans
  pub named : AllPairs DifferInName spans

-- The spans stand in order. The first is the whole code, which no other one passes.
pub record AreLaid (spans : List Span) : Type 0 where
  pub some : 0 < length spans
  pub ordered : AllPairs ComesBefore spans
  pub within : (k : ℕ) (d : Span) → k < length spans → (slice_index_or spans k d).to ≤ (slice_index_or spans 0 d).to
  pub whole : (d : Span) → (slice_index_or spans 0 d).kind ≡ Code
  pub begins : (d : Span) → (slice_index_or spans 0 d).from ≡ 0
  pub parts : (k : ℕ) (d : Span) → 0 < k → k < length spans → (slice_index_or spans k d).kind ≢ Code
  pub wide : (k : ℕ) (d : Span) → 0 < k → k < length spans → (slice_index_or spans k d).from < (slice_index_or spans k d).to

-- the node is this region, and in spans before it the last that ends behind its start has the number that is its parent
pub record IsLink (spans : List Span) (k : ℕ) (r : Span) (node : Region) : Type 0 where
  pub kind : node.kind ≡ r.kind
  pub from : node.from ≡ r.from
  pub to : node.to ≡ r.to
  pub first : k ≡ 0 → node.parent ≡ 0
  pub before : 0 < k → node.parent < k
  pub reaches : (d : Span) → 0 < k → r.from < (slice_index_or spans node.parent d).to
  pub last : (i : ℕ) (d : Span) → node.parent < i → i < k → (slice_index_or spans i d).to ≤ r.from

-- the nodes are the first regions
pub record AreLinks (spans : List Span) (nodes : List Region) : Type 0 where
  pub few : length nodes ≤ length spans
  pub each : (k : ℕ) (r : Span) (node : Region) → k < length nodes → IsLink spans k (slice_index_or spans k r) (slice_index_or nodes k node)

-- the nodes are all regions
pub record AreChained (spans : List Span) (nodes : List Region) : Type 0 where
  pub links : AreLinks spans nodes
  pub as_many : length nodes ≡ length spans

-- each node but the first has an earlier parent, and those between the two end by its start
pub record AreLinked (nodes : List Region) : Type 0 where
  pub before : (k : ℕ) (d : Region) → 0 < k → k < length nodes → (slice_index_or nodes k d).parent < k
  pub last : (i k : ℕ) (d : Region) → (slice_index_or nodes k d).parent < i → i < k → k < length nodes → (slice_index_or nodes i d).to ≤ (slice_index_or nodes k d).from

-- the nodes behind the node of this number end by the place
pub record IsStart (nodes : List Region) (place start : ℕ) : Type 0 where
  pub within : start < length nodes
  pub behind : (i : ℕ) (d : Region) → start < i → i < length nodes → (slice_index_or nodes i d).to ≤ place

-- the node of this number is the last that ends behind the place
pub record IsReaching (nodes : List Region) (place at : ℕ) : Type 0 where
  pub within : at < length nodes
  pub reaches : (d : Region) → place < (slice_index_or nodes at d).to
  pub last : (i : ℕ) (d : Region) → at < i → i < length nodes → (slice_index_or nodes i d).to ≤ place

-- s begins within r, and ends behind it
abbrev pub Crosses : Span → Span → Type 0
Crosses r s = (r.from < s.from) × (s.from < r.to) × (r.to < s.to)

-- the regions begin one after another
abbrev pub AreRising : List Span → Type 0
AreRising spans = (i j : ℕ) (d : Span) → i ≤ j → j < length spans → (slice_index_or spans i d).from ≤ (slice_index_or spans j d).from

-- Nodes of regions that lie in one another. The first is the whole code.
pub record AreNested (nodes : List Region) : Type 0 where
  pub linked : AreLinked nodes
  pub rising : IsNonDecreasingBy (λ (node : Region). node.from) nodes
  pub whole : (d : Region) → 0 < length nodes → (slice_index_or nodes 0 d).kind ≡ Code
  pub held : (k : ℕ) (d : Region) → 0 < k → k < length nodes → (slice_index_or nodes k d).to ≤ (slice_index_or nodes (slice_index_or nodes k d).parent d).to

-- so many nodes begin by the place
pub record AreBegun (nodes : List Region) (place n : ℕ) : Type 0 where
  pub few : n ≤ length nodes
  pub by : (i : ℕ) (d : Region) → i < n → (slice_index_or nodes i d).from ≤ place
  pub behind : (i : ℕ) (d : Region) → n ≤ i → i < length nodes → place < (slice_index_or nodes i d).from

-- the region holds the place, and is no try
abbrev pub Handles : Region → ℕ → Type 0
Handles node place = (node.from ≤ place) × (place < node.to) × (node.kind ≢ Try)

-- the node of this number is the last that holds the place and is no try
pub record IsHandling (nodes : List Region) (place at : ℕ) : Type 0 where
  pub within : at < length nodes
  pub handles : (d : Region) → Handles (slice_index_or nodes at d) place
  pub last : (i : ℕ) (d : Region) → at < i → i < length nodes → Handles (slice_index_or nodes i d) place → ⊥

-- and is a catch
abbrev pub IsCaught : List Region → ℕ → Type 0
IsCaught nodes place = (at : ℕ) × IsHandling nodes place at × ((d : Region) → IsCatchKind (slice_index_or nodes at d).kind)

-- an instruction other than a rethrow, or a rethrow in a catch
abbrev pub IsFineBy : List Region → ℕ × Instr → Type 0
IsFineBy nodes e = e.1.op ≡ Rethrow → IsCaught nodes e.0

-- the instruction at this place is the first that isn't so
abbrev pub IsOffBy : List Region → List (ℕ × Instr) → ℕ → Type 0
IsOffBy nodes code place = (e : ℕ × Instr) × IsFirstOff (IsFineBy nodes) code e × (place ≡ e.0)

-- in how many regions each of the first nodes stands
pub record AreDepths (nodes : List Region) (depths : List ℕ) : Type 0 where
  pub few : length depths ≤ length nodes
  pub first : 0 < length depths → slice_index depths 0 ≡ 0
  pub more : (k : ℕ) (d : Region) → 0 < k → k < length depths → slice_index depths k ≡ slice_index depths (slice_index_or nodes k d).parent + 1
  pub shallow : (k : ℕ) → k < length depths → slice_index depths k ≤ depth_limit

-- the node behind those that have these depths begins at this place, and stands deeper than it may
pub record IsTooDeep (nodes : List Region) (depths : List ℕ) (place : ℕ) : Type 0 where
  pub fine : AreDepths nodes depths
  pub some : 0 < length depths
  pub within : length depths < length nodes
  pub from : (d : Region) → place ≡ (slice_index_or nodes (length depths) d).from
  pub deep : (d : Region) → depth_limit ≤ slice_index depths (slice_index_or nodes (length depths) d).parent

-- the parents of the tries, or of the handlers, by the number of their first clause
pub record AreParents (spans : List Span) (nodes : List Region) (tries : Bool) (count : ℕ) (parents : List ℕ) : Type 0 where
  pub as_many : length parents ≡ count
  pub each : (k : ℕ) (s : Span) (node : Region) → k < length spans → is_try (slice_index_or spans k s).kind ≡ tries → (slice_index_or spans k s).first < count → slice_index parents (slice_index_or spans k s).first ≡ (slice_index_or nodes k node).parent

-- the clause's try and its handler have one parent
abbrev pub AgreeAt : List ℕ → List ℕ → List ℕ → ℕ → Type 0
AgreeAt firsts tries handlers i = slice_index tries (slice_index firsts i) ≡ slice_index handlers i

-- a try or a handler of one of the first n clauses begins at this place and hasn't the parent of its partner
abbrev pub DisagreeAt : List Clause → List ℕ → List ℕ → List ℕ → ℕ → ℕ → Type 0
DisagreeAt clauses firsts tries handlers n place =
    (i : ℕ) × (c : Clause) × (i < n) × (slice_index_or clauses i c ≡ c) × (AgreeAt firsts tries handlers i → ⊥) × ((place ≡ c.try_at) ⊎ (place ≡ c.handler_at))

-- the least such place, if there is one
abbrev pub IsLeastDisagreement : List Clause → List ℕ → List ℕ → List ℕ → ℕ → Option ℕ → Type 0
IsLeastDisagreement clauses firsts tries handlers n None =
    (place : ℕ) → DisagreeAt clauses firsts tries handlers n place → ⊥
IsLeastDisagreement clauses firsts tries handlers n (Some place) = IsLeast (DisagreeAt clauses firsts tries handlers n) place

-- No node stands deeper than it may, or the first that does begins at the place that is given.
abbrev pub IsDepthAnswer : List Region → Option ℕ → Type 0
IsDepthAnswer nodes None = (depths : List ℕ) × AreDepths nodes depths × (length depths ≡ length nodes)
IsDepthAnswer nodes (Some place) = (depths : List ℕ) × IsTooDeep nodes depths place

-- the nodes are the body's regions, of which any two are laminar
pub record IsTree (body : Body) (nodes : List Region) : Type 0 where
  pub spans : List Span
  pub ordered : AreOrdered body spans
  pub laid : AreLaid spans
  pub laminar : AllPairs AreLaminar spans
  pub chained : AreChained spans nodes
