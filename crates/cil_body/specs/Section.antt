-- The sections behind the code, with the clauses on exceptions (ECMA-335 II.25.4.5, II.25.4.6). Places count from the
-- header's first byte.
use Rattle.std.specs.Prelude.{◌≡◌, ◌⊎◌, ℕ, zero, suc, ◌+◌, ◌-◌, ◌*◌, ◌/◌, ◌%◌, ◌<◌, ◌≤◌, Bool, true, false, if◌then◌else◌, List, [], ◌∷◌, ◌++◌, length, slice_index, All, Contains, MatchBool}
use Rattle.std.specs.List.{flat_map}
use Rattle.dc_base.specs.declared.failure.Or.{Or}
use Rattle.dc_base.specs.declared.failure.Or.TheVariants.{NoMemory, Fault}
use Rattle.cil_instruction.specs.declared.fault.BodyFault.{BodyFault}
use Rattle.cil_instruction.specs.declared.fault.BodyCause.TheVariants.{BadSection}
use Rattle.cil_body.specs.declared.header.Header.{Header}
use Rattle.cil_body.specs.declared.section.Section.{Section}
use Rattle.cil_body.specs.declared.section.RawClause.{RawClause}
use Rattle.dc_causes.specs.First.{IsFirstOff}
use Rattle.cil_body.specs.Number.{number_at}
use Rattle.cil_body.specs.Header.{has_flag}

-- the first place from this one on that is a multiple of four
abbrev pub aligned : ℕ → ℕ
aligned place = (place + 3) / 4 * 4

-- the bytes of a clause: a small one has 12, a fat one 24
abbrev pub clause_width : Bool → ℕ
clause_width fat = if fat then 24 else 12

-- A section's header has four bytes: its flags, 0x40 for a fat one and 0x80 where another one follows, and its size, in
-- one byte or, of a fat one, in three.
abbrev pub section_of : List ℕ → ℕ → Section
section_of bytes at =
    record {
      at = at;
      is_fat = has_flag (slice_index bytes at) 0x40;
      has_more = has_flag (slice_index bytes at) 0x80;
      size = if has_flag (slice_index bytes at) 0x40 then number_at 3 bytes (at + 1) else slice_index bytes (at + 1);
    }

-- At this place stands this section, within the bytes. Besides those two flags it has the one that says that it holds
-- clauses, and its size is that of its header and of whole clauses.
pub record IsSection (bytes : List ℕ) (at : ℕ) (s : Section) : Type 0 where
  pub header : at + 4 ≤ length bytes
  pub is : s ≡ section_of bytes at
  pub kind : slice_index bytes at % 0x40 ≡ 1
  pub whole : s.size % clause_width s.is_fat ≡ 4
  pub within : at + s.size ≤ length bytes

-- a small clause: its kind, the place and the length of its try, those of its handler, and the token of its class
abbrev pub small_clause : List ℕ → ℕ → RawClause
small_clause bytes at =
    record {
      at = at;
      kind = number_at 2 bytes at;
      try_at = number_at 2 bytes (at + 2);
      try_len = slice_index bytes (at + 4);
      handler_at = number_at 2 bytes (at + 5);
      handler_len = slice_index bytes (at + 7);
      class = number_at 4 bytes (at + 8);
    }

-- a fat clause: the same, in four bytes each
abbrev pub fat_clause : List ℕ → ℕ → RawClause
fat_clause bytes at =
    record {
      at = at;
      kind = number_at 4 bytes at;
      try_at = number_at 4 bytes (at + 4);
      try_len = number_at 4 bytes (at + 8);
      handler_at = number_at 4 bytes (at + 12);
      handler_len = number_at 4 bytes (at + 16);
      class = number_at 4 bytes (at + 20);
    }

abbrev pub clause_at : Bool → List ℕ → ℕ → RawClause
clause_at fat bytes at = if fat then fat_clause bytes at else small_clause bytes at

-- so many clauses from this place on, one behind the other
abbrev pub clauses_from : Bool → List ℕ → ℕ → ℕ → List RawClause
clauses_from fat bytes at zero = []
clauses_from fat bytes at (suc n) = clause_at fat bytes at ∷ clauses_from fat bytes (at + clause_width fat) n

-- the clauses of a section
abbrev pub clauses_of : List ℕ → Section → List RawClause
clauses_of bytes s = clauses_from s.is_fat bytes (s.at + 4) ((s.size - 4) / clause_width s.is_fat)

-- From place `at` on stand these sections, one directly behind the other, up to place `end`, and behind each another is
-- due. A section's size is a multiple of four, so that the next one stands on such a place too.
abbrev pub Chained : List ℕ → ℕ → List Section → ℕ → Type 0
Chained bytes at [] end = end ≡ at
Chained bytes at (s ∷ ss) end = IsSection bytes at s × (s.has_more ≡ true) × Chained bytes (at + s.size) ss end

-- where the first section is due: behind the code, on a multiple of four
abbrev pub sections_place : Header → ℕ
sections_place h = aligned (h.start + h.size)

-- these are all the sections from this place on
pub record AreSections (bytes : List ℕ) (at : ℕ) (sections : List Section) : Type 0 where
  pub front : List Section
  pub end : ℕ
  pub last : Section
  pub all : sections ≡ front ++ last ∷ []
  pub chained : Chained bytes at front end
  pub is_last : IsSection bytes end last
  pub no_more : last.has_more ≡ false

-- these are the sections of the body: those that the header speaks of, or none
abbrev pub HasSections : List ℕ → Header → List Section → Type 0
HasSections bytes h sections = MatchBool h.has_sections (AreSections bytes (sections_place h) sections) (sections ≡ [])

-- the clauses of all sections
abbrev pub all_clauses : List ℕ → List Section → List RawClause
all_clauses bytes sections = flat_map (clauses_of bytes) sections

-- the kinds of the standard: catch, filter, finally and fault
abbrev pub IsKind : ℕ → Type 0
IsKind kind = (kind ≡ 0) ⊎ (kind ≡ 1) ⊎ (kind ≡ 2) ⊎ (kind ≡ 4)

-- of these, catch and finally are taken
abbrev pub IsTakenKind : ℕ → Type 0
IsTakenKind kind = (kind ≡ 0) ⊎ (kind ≡ 2)

abbrev pub IsTaken : RawClause → Type 0
IsTaken c = IsTakenKind c.kind

-- a place where an instruction starts, or the code's end
abbrev pub IsBound : List ℕ → ℕ → ℕ → Type 0
IsBound starts size place = Contains starts place ⊎ (place ≡ size)

-- the range isn't empty, and begins and ends at such a place
abbrev pub AreBounds : List ℕ → ℕ → ℕ → ℕ → Type 0
AreBounds starts size at len = (0 < len) × IsBound starts size at × IsBound starts size (at + len)

-- the clause has a kind of the standard, and a try and a handler of whole instructions, at least one each
pub record IsClause (starts : List ℕ) (size : ℕ) (c : RawClause) : Type 0 where
  pub kind : IsKind c.kind
  pub some_try : 0 < c.try_len
  pub some_handler : 0 < c.handler_len
  pub try_start : IsBound starts size c.try_at
  pub try_end : IsBound starts size (c.try_at + c.try_len)
  pub handler_start : IsBound starts size c.handler_at
  pub handler_end : IsBound starts size (c.handler_at + c.handler_len)

-- no section stands at this place, or this is the first of the section's clauses that is none
abbrev pub IsWrongSection : List ℕ → List ℕ → ℕ → ℕ → ℕ → Type 0
IsWrongSection bytes starts size due place =
    ((place ≡ due) × ((s : Section) → IsSection bytes due s → ⊥))
    ⊎ ((s : Section) × (c : RawClause) × IsSection bytes due s × IsFirstOff (IsClause starts size) (clauses_of bytes s) c × (place ≡ c.at))

-- the first thing that is wrong with the sections from `at` on stands at this place
pub record IsBadSection (bytes starts : List ℕ) (size at place : ℕ) : Type 0 where
  pub front : List Section
  pub due : ℕ
  pub chained : Chained bytes at front due
  pub fine : All (IsClause starts size) (all_clauses bytes front)
  pub wrong : IsWrongSection bytes starts size due place

-- the clauses of all sections that the header speaks of, each as the standard has it
abbrev pub AreClauses : List ℕ → Header → List ℕ → List RawClause → Type 0
AreClauses bytes h starts raw =
    (sections : List Section) × HasSections bytes h sections × (raw ≡ all_clauses bytes sections) × All (IsClause starts h.size) raw

-- the sections that the header speaks of have this fault
abbrev pub IsSectionFault : List ℕ → Header → List ℕ → Or BodyFault → Type 0
IsSectionFault bytes h starts NoMemory = Unit {0}
IsSectionFault bytes h starts (Fault fault) =
    (h.has_sections ≡ true) × (fault.cause ≡ BadSection) × IsBadSection bytes starts h.size (sections_place h) fault.at

-- the first of the section's clauses that is none stands at the fault's place
abbrev pub IsClauseBroken : List ℕ → Section → List ℕ → ℕ → Or BodyFault → Type 0
IsClauseBroken bytes s starts size NoMemory = Unit {0}
IsClauseBroken bytes s starts size (Fault fault) =
    (fault.cause ≡ BadSection) × ((c : RawClause) × IsFirstOff (IsClause starts size) (clauses_of bytes s) c × (fault.at ≡ c.at))
