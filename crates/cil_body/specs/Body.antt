-- A body (ECMA-335 II.25.4), and what is wrong with bytes that begin with none.
use Rattle.std.specs.Prelude.{◌≡◌, ◌⊎◌, ℕ, ◌+◌, ◌<◌, ◌≤◌, true, ◌==◌, if◌then◌else◌, List, length, map, All}
use Rattle.dc_base.specs.declared.failure.Or.{Or}
use Rattle.dc_base.specs.declared.failure.Or.TheVariants.{NoMemory, Fault}
use Rattle.cil_body.specs.declared.header.Header.{Header}
use Rattle.cil_body.specs.declared.section.Section.{Section}
use Rattle.cil_body.specs.declared.section.RawClause.{RawClause}
use Rattle.cil_body.specs.declared.body.Body.{Body}
use Rattle.cil_body.specs.declared.body.Clause.{Clause}
use Rattle.cil_body.specs.declared.body.ClauseKind.{ClauseKind}
use Rattle.cil_body.specs.declared.body.ClauseKind.TheVariants.{Catch, Finally}
use Rattle.cil_instruction.specs.declared.fault.BodyFault.{BodyFault}
use Rattle.cil_instruction.specs.declared.fault.BodyCause.{BodyCause}
use Rattle.cil_instruction.specs.declared.fault.BodyCause.TheVariants.{BadHeader, TooLong, Truncated, BadOpcode, OutOfProfile, BadTarget, BadSection, OutOfProfileClause}
use Rattle.dc_causes.specs.First.{IsFirstOff}
use Rattle.cil_body.specs.Header.{IsHeader, IsBadHeader}
use Rattle.cil_body.specs.Code.{Placed, IsCode, IsStop, IsAimed, code_of, starts_of, instr_of}
use Rattle.cil_body.specs.Section.{HasSections, all_clauses, sections_place, IsClause, IsTaken, IsBadSection}

-- what a clause does whose kind is 0 or 2
abbrev pub kind_of : ℕ → ClauseKind
kind_of kind = if kind == 0 then Catch else Finally

-- a clause of kind 0 or 2
abbrev pub clause_of : RawClause → Clause
clause_of c =
    record {
      kind = kind_of c.kind;
      try_at = c.try_at;
      try_len = c.try_len;
      handler_at = c.handler_at;
      handler_len = c.handler_len;
      class = record { 0 = c.class };
    }

-- this is the first clause that isn't taken
abbrev pub IsClauseFault : List RawClause → Or BodyFault → Type 0
IsClauseFault raw NoMemory = Unit {0}
IsClauseFault raw (Fault fault) =
    (c : RawClause) × IsFirstOff IsTaken raw c × (fault.cause ≡ OutOfProfileClause c.kind) × (fault.at ≡ c.at)

-- the code is these instructions, and each leads to such alone
pub record IsAimedCode (bytes : List ℕ) (limit : ℕ) (h : Header) (code : List Placed) : Type 0 where
  pub is_code : IsCode bytes limit h code
  pub aimed : All (IsAimed (code_of bytes h) (starts_of code)) code

-- behind the code stand these sections, and their clauses are such as the standard has
pub record HasClauses (bytes : List ℕ) (limit : ℕ) (h : Header) (code : List Placed) (sections : List Section) : Type 0 where
  pub aimed : IsAimedCode bytes limit h code
  pub has_sections : HasSections bytes h sections
  pub are_clauses : All (IsClause (starts_of code) h.size) (all_clauses bytes sections)

-- what the header, the instructions and the clauses say
abbrev pub body_of : List ℕ → Header → List Placed → List Section → Body
body_of bytes h code sections =
    record {
      max_stack = h.max_stack;
      init_locals = h.init_locals;
      locals = h.locals;
      size = h.size;
      code = map (instr_of (code_of bytes h)) code;
      clauses = map clause_of (all_clauses bytes sections);
    }

-- the bytes begin with this body, whose code isn't longer than the limit
pub record IsBody (bytes : List ℕ) (limit : ℕ) (body : Body) : Type 0 where
  pub header : Header
  pub code : List Placed
  pub sections : List Section
  pub has : HasClauses bytes limit header code sections
  pub taken : All IsTaken (all_clauses bytes sections)
  pub is : body ≡ body_of bytes header code sections

-- the header speaks of more code than the limit allows
abbrev pub IsTooLong : List ℕ → ℕ → ℕ → Type 0
IsTooLong bytes limit place = (h : Header) × IsHeader bytes h × (limit < h.size) × (place ≡ 0)

-- the header speaks of code that passes the end of the bytes
abbrev pub IsShort : List ℕ → ℕ → ℕ → Type 0
IsShort bytes limit place =
    (h : Header) × IsHeader bytes h × (h.size ≤ limit) × (length bytes < h.start + h.size) × (place ≡ length bytes)

-- the cut of the code stops at this place
abbrev pub StopsAt : List ℕ → ℕ → ℕ → BodyCause → Type 0
StopsAt bytes limit place cause = (h : Header) × (at : ℕ) × IsStop bytes limit h at cause × (place ≡ h.start + at)

-- an instruction leads to a place at which none starts, and none before it does so
abbrev pub IsBadTarget : List ℕ → ℕ → ℕ → Type 0
IsBadTarget bytes limit place =
    (h : Header) × (code : List Placed) × IsCode bytes limit h code
    × ((e : Placed) × IsFirstOff (IsAimed (code_of bytes h) (starts_of code)) code e × (place ≡ h.start + e.0))

-- behind the code stands at this place something else than sections of clauses
abbrev pub HasBadSection : List ℕ → ℕ → ℕ → Type 0
HasBadSection bytes limit place =
    (h : Header) × (code : List Placed) × IsAimedCode bytes limit h code × (h.has_sections ≡ true)
    × IsBadSection bytes (starts_of code) h.size (sections_place h) place

-- at this place stands a clause of this kind, which isn't taken, and none before it is such
abbrev pub IsLeftOutClause : List ℕ → ℕ → ℕ → ℕ → Type 0
IsLeftOutClause bytes limit place kind =
    (h : Header) × (code : List Placed) × (sections : List Section) × HasClauses bytes limit h code sections
    × ((c : RawClause) × IsFirstOff IsTaken (all_clauses bytes sections) c × (place ≡ c.at) × (kind ≡ c.kind))

-- What is wrong with bytes that begin with no body. Each cause comes only where those listed before it don't.
abbrev pub IsWrong : List ℕ → ℕ → ℕ → BodyCause → Type 0
IsWrong bytes limit place BadHeader = IsBadHeader bytes place
IsWrong bytes limit place TooLong = IsTooLong bytes limit place
IsWrong bytes limit place Truncated = IsShort bytes limit place ⊎ StopsAt bytes limit place Truncated
IsWrong bytes limit place (BadOpcode code) = StopsAt bytes limit place (BadOpcode code)
IsWrong bytes limit place (OutOfProfile code) = StopsAt bytes limit place (OutOfProfile code)
IsWrong bytes limit place BadTarget = IsBadTarget bytes limit place
IsWrong bytes limit place BadSection = HasBadSection bytes limit place
IsWrong bytes limit place (OutOfProfileClause kind) = IsLeftOutClause bytes limit place kind

-- the bytes' fault
abbrev pub IsBodyFault : List ℕ → ℕ → BodyFault → Type 0
IsBodyFault bytes limit fault = IsWrong bytes limit fault.at fault.cause
