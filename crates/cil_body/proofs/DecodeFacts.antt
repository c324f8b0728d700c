-- What a body is made of, and what a fault of its parts says of it.
use Rattle.std.proofs.Common.{◌≡◌, inr, ℕ, zero, suc, ◌+◌, ◌<◌, ◌≤◌, List, [], ◌∷◌, length, get_or, drop, map, refl, sym, ap, ◌∙◌, subst, arith, All, length-take, length-drop}
use Rattle.dc_base.specs.declared.failure.Or.{Or}
use Rattle.dc_base.specs.declared.failure.Or.TheVariants.{NoMemory, Fault}
use Rattle.cil_body.specs.declared.header.Header.{Header}
use Rattle.cil_body.specs.declared.section.RawClause.{RawClause}
use Rattle.cil_body.specs.declared.body.Body.{Body}
use Rattle.cil_body.specs.declared.body.Clause.{Clause}
use Rattle.cil_instruction.specs.declared.instruction.Instr.{Instr}
use Rattle.cil_instruction.specs.declared.fault.BodyFault.{BodyFault}
use Rattle.cil_instruction.specs.declared.fault.BodyCause.{BodyCause}
use Rattle.cil_instruction.specs.declared.fault.BodyCause.TheVariants.{BadHeader, TooLong, Truncated, BadOpcode, OutOfProfile, BadTarget, BadSection, OutOfProfileClause}
use Rattle.dc_causes.specs.First.{IsFirstOff}
use Rattle.cil_instruction.specs.Laws.{IsCutCause}
use Rattle.cil_instruction.proofs.Consequences.{cause_is_of_cut}
use Rattle.cil_body.specs.Code.{Placed, Reads, IsWhole, IsCode, IsAimed, IsCutFault, IsAimFault, AreInOrder, code_of, starts_of, instr_of}
use Rattle.cil_body.specs.Section.{AreClauses, IsSectionFault, IsTaken, all_clauses, IsClause, IsBadSection, sections_place}
use Rattle.dc_causes.specs.Answer.{IsRefused}
use Rattle.cil_body.specs.Body.{IsBody, IsBodyFault, IsWrong, IsClauseFault, IsAimedCode, HasClauses, StopsAt, clause_of}

-- ---- the places of the instructions rise

starts_above : (at : ℕ) (bytes : List ℕ) (placed : List Placed) (end : ℕ) (rest : List ℕ) → Reads at bytes placed end rest → (k : ℕ) → k < length (starts_of placed) → at ≤ get_or (starts_of placed) k 0
starts_above at bytes [] end rest r k lt = absurd (omega arith)
starts_above at bytes (e ∷ placed) end rest r zero lt = omega (arith, r.0)
starts_above at bytes (e ∷ placed) end rest r (suc k) lt =
    omega (arith, starts_above (at + e.1.size) (drop e.1.size bytes) placed end rest r.2 k (omega arith))

pub starts_rise : (at : ℕ) (bytes : List ℕ) (placed : List Placed) (end : ℕ) (rest : List ℕ) → Reads at bytes placed end rest → AreInOrder (starts_of placed)
starts_rise at bytes [] end rest r i j le lt = absurd (omega arith)
starts_rise at bytes (e ∷ placed) end rest r zero zero le lt = omega arith
starts_rise at bytes (e ∷ placed) end rest r zero (suc j) le lt =
    omega (arith, r.0, starts_above (at + e.1.size) (drop e.1.size bytes) placed end rest r.2 j (omega arith))
starts_rise at bytes (e ∷ placed) end rest r (suc i) zero le lt = absurd (omega arith)
starts_rise at bytes (e ∷ placed) end rest r (suc i) (suc j) le lt =
    starts_rise (at + e.1.size) (drop e.1.size bytes) placed end rest r.2 i j (omega arith) (omega arith)

-- ---- the code

length-code : (bytes : List ℕ) (limit : ℕ) (h : Header) → IsWhole bytes limit h → length (code_of bytes h) ≡ h.size
length-code bytes limit h whole =
    let within : h.start + h.size ≤ length bytes = whole.within in
    omega (arith, length-take h.size (drop h.start bytes), length-drop h.start bytes)

-- the code was cut into these instructions
pub record IsRead (bytes : List ℕ) (limit : ℕ) (h : Header) (code : List ℕ) (placed : List Placed) : Type 0 where
  pub whole : IsWhole bytes limit h
  pub is : code ≡ code_of bytes h
  pub reads : Reads 0 code placed (length code) []

is_code : (bytes : List ℕ) (limit : ℕ) (h : Header) (code : List ℕ) (placed : List Placed) → IsWhole bytes limit h → code ≡ code_of bytes h → Reads 0 code placed (length code) [] → IsCode bytes limit h placed
is_code bytes limit h code placed whole is reads =
    let all : Reads 0 (code_of bytes h) placed (length (code_of bytes h)) [] = subst (λ (x : List ℕ). Reads 0 x placed (length x) []) is reads in
    record {
      whole = whole;
      reads = subst (λ (n : ℕ). Reads 0 (code_of bytes h) placed n []) (length-code bytes limit h whole) all;
    }

-- ---- why a cut stops

stops_at : (bytes : List ℕ) (limit place : ℕ) (cause : BodyCause) → IsCutCause cause → StopsAt bytes limit place cause → IsWrong bytes limit place cause
stops_at bytes limit place BadHeader is stops = absurd is
stops_at bytes limit place TooLong is stops = absurd is
stops_at bytes limit place Truncated is stops = inr stops
stops_at bytes limit place (BadOpcode code) is stops = stops
stops_at bytes limit place (OutOfProfile code) is stops = stops
stops_at bytes limit place BadTarget is stops = absurd is
stops_at bytes limit place BadSection is stops = absurd is
stops_at bytes limit place (OutOfProfileClause kind) is stops = absurd is

-- the cut of the code stops
pub cut_refused : {bytes : List ℕ} {limit : ℕ} {h : Header} (code : List ℕ) → IsWhole bytes limit h → code ≡ code_of bytes h → (e : Or BodyFault) → IsCutFault code h.start e → IsRefused (IsBodyFault bytes limit) e
cut_refused code whole is NoMemory f = tt
cut_refused {bytes = bytes} {limit = limit} {h = h} code whole is (Fault fault) (placed, at, rest, reads, more, none, place) =
    let all : Reads 0 (code_of bytes h) placed at rest = subst (λ (x : List ℕ). Reads 0 x placed at rest) is reads in
    stops_at bytes limit fault.at fault.cause (cause_is_of_cut rest fault.cause none)
    (h, at, record { whole = whole; code = placed; rest = rest; reads = all; more = more; none = none }, place)

-- ---- where the instructions lead

-- an instruction leads to a place at which none starts
pub aim_refused : {bytes : List ℕ} {limit : ℕ} {h : Header} {code : List ℕ} {placed : List Placed} → IsRead bytes limit h code placed → {ps : List Placed} → ps ≡ placed → (e : Or BodyFault) → IsAimFault code ps h.start e → IsRefused (IsBodyFault bytes limit) e
aim_refused r same NoMemory f = tt
aim_refused {bytes = bytes} {limit = limit} {h = h} {code = code} {placed = placed} r same (Fault fault) (x, off, cause, place) =
    let here : IsFirstOff (IsAimed code (starts_of placed)) placed x = subst (λ (q : List Placed). IsFirstOff (IsAimed code (starts_of q)) q x) same off in
    let off' : IsFirstOff (IsAimed (code_of bytes h) (starts_of placed)) placed x = subst (λ (b : List ℕ). IsFirstOff (IsAimed b (starts_of placed)) placed x) r.is here in
    subst (λ (why : BodyCause). IsWrong bytes limit fault.at why) (sym cause)
    (h, placed, is_code bytes limit h code placed r.whole r.is r.reads, (x, off', place))

pub is_aimed : {bytes : List ℕ} {limit : ℕ} {h : Header} {code : List ℕ} {placed : List Placed} → IsRead bytes limit h code placed → {ps : List Placed} → ps ≡ placed → {starts : List ℕ} → starts ≡ starts_of placed → All (IsAimed code starts) ps → IsAimedCode bytes limit h placed
is_aimed {bytes = bytes} {limit = limit} {h = h} {code = code} {placed = placed} r same {starts = starts} begin aims =
    let all : All (IsAimed code starts) placed = subst (λ (q : List Placed). All (IsAimed code starts) q) same aims in
    let at_starts : All (IsAimed code (starts_of placed)) placed = subst (λ (q : List ℕ). All (IsAimed code q) placed) begin all in
    record {
      is_code = is_code bytes limit h code placed r.whole r.is r.reads;
      aimed = subst (λ (b : List ℕ). All (IsAimed b (starts_of placed)) placed) r.is at_starts;
    }

-- ---- the sections and the clauses

-- the sections have a fault
pub section_refused : {bytes : List ℕ} {limit : ℕ} {h : Header} {placed : List Placed} → IsAimedCode bytes limit h placed → {starts : List ℕ} → starts ≡ starts_of placed → (e : Or BodyFault) → IsSectionFault bytes h starts e → IsRefused (IsBodyFault bytes limit) e
section_refused aimed begin NoMemory f = tt
section_refused {bytes = bytes} {limit = limit} {h = h} {placed = placed} aimed begin (Fault fault) (has, cause, bad) =
    subst (λ (why : BodyCause). IsWrong bytes limit fault.at why) (sym cause)
    (h, placed, aimed, has, subst (λ (q : List ℕ). IsBadSection bytes q h.size (sections_place h) fault.at) begin bad)

has_clauses : {bytes : List ℕ} {limit : ℕ} {h : Header} {placed : List Placed} → IsAimedCode bytes limit h placed → {starts : List ℕ} → starts ≡ starts_of placed → (raw : List RawClause) (are : AreClauses bytes h starts raw) → HasClauses bytes limit h placed are.0
has_clauses {bytes = bytes} {h = h} aimed {starts = starts} begin raw are =
    let fine : All (IsClause starts h.size) (all_clauses bytes are.0) = subst (λ (cs : List RawClause). All (IsClause starts h.size) cs) are.2 are.3 in
    record {
      aimed = aimed;
      has_sections = are.1;
      are_clauses = subst (λ (q : List ℕ). All (IsClause q h.size) (all_clauses bytes are.0)) begin fine;
    }

-- a clause isn't taken
pub clause_refused : {bytes : List ℕ} {limit : ℕ} {h : Header} {placed : List Placed} → IsAimedCode bytes limit h placed → {starts : List ℕ} → starts ≡ starts_of placed → {rs raw : List RawClause} → rs ≡ raw → AreClauses bytes h starts raw → (e : Or BodyFault) → IsClauseFault rs e → IsRefused (IsBodyFault bytes limit) e
clause_refused aimed begin same are NoMemory f = tt
clause_refused {bytes = bytes} {limit = limit} {h = h} {placed = placed} aimed begin {raw = raw} same are (Fault fault) (x, off, cause, place) =
    let off' : IsFirstOff IsTaken (all_clauses bytes are.0) x = subst (λ (cs : List RawClause). IsFirstOff IsTaken cs x) (same ∙ are.2) off in
    subst (λ (why : BodyCause). IsWrong bytes limit fault.at why) (sym cause)
    (h, placed, are.0, has_clauses aimed begin raw are, (x, off', place, refl))

-- ---- the body

abbrev made : Header → List (ℕ × Instr) → List Clause → Body
made h instrs clauses =
    record {
      max_stack = h.max_stack;
      init_locals = h.init_locals;
      locals = h.locals;
      size = h.size;
      code = instrs;
      clauses = clauses;
    }

pub is_body : {bytes : List ℕ} {limit : ℕ} {h : Header} {placed : List Placed} → IsAimedCode bytes limit h placed → {starts : List ℕ} → starts ≡ starts_of placed → {rs raw : List RawClause} → rs ≡ raw → AreClauses bytes h starts raw → All IsTaken rs → (instrs : List (ℕ × Instr)) (clauses : List Clause) → instrs ≡ map (instr_of (code_of bytes h)) placed → clauses ≡ map clause_of rs → IsBody bytes limit (made h instrs clauses)
is_body {bytes = bytes} {h = h} {placed = placed} aimed begin {raw = raw} same are taken instrs clauses reads says =
    let all : clauses ≡ map clause_of (all_clauses bytes are.0) = says ∙ ap (map clause_of) (same ∙ are.2) in
    record {
      header = h;
      code = placed;
      sections = are.0;
      has = has_clauses aimed begin raw are;
      taken = subst (λ (cs : List RawClause). All IsTaken cs) (same ∙ are.2) taken;
      is = ap (λ (x : List (ℕ × Instr)). made h x clauses) reads ∙ ap (λ (x : List Clause). made h (map (instr_of (code_of bytes h)) placed) x) all;
    }
