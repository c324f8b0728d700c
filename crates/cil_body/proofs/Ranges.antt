-- The clauses of a body are ranges of its code, and few.
use Rattle.std.proofs.Common.{◌≡◌, ℕ, zero, suc, ◌+◌, ◌-◌, ◌*◌, ◌/◌, ◌^◌, ◌<◌, ◌≤◌, Bool, true, false, List, [], ◌∷◌, ◌++◌, length, map, get_or, All, MatchBool, refl, sym, ◌∙◌, ap, subst, inl, inr, arith, length-append}
use Rattle.std.proofs.lemmas.List.{length-map}
use Rattle.std.proofs.lemmas.List.Elements.{All-map, All-weaker, All-contains}
use Rattle.std.proofs.lemmas.List.Concat.{flat_map-append}
use Rattle.cil_body.specs.declared.header.Header.{Header}
use Rattle.cil_body.specs.declared.section.Section.{Section}
use Rattle.cil_body.specs.declared.section.RawClause.{RawClause}
use Rattle.cil_body.specs.declared.body.Body.{Body}
use Rattle.cil_body.specs.Code.{Placed, Reads, starts_of}
use Rattle.cil_body.specs.Section.{clause_width, clauses_from, clauses_of, all_clauses, Chained, AreSections, sections_place, IsBound, IsClause}
use Rattle.cil_body.specs.Body.{clause_of, IsBody}
use Rattle.cil_body.specs.Range.{IsRange, HasRanges}

-- each place of the code is before its end
reads_le : (at : ℕ) (bytes : List ℕ) (code : List Placed) (end : ℕ) (rest : List ℕ) → Reads at bytes code end rest → at ≤ end
reads_le at bytes [] end rest r = omega (arith, r.0)
reads_le at bytes (e ∷ code) end rest r =
    let le = reads_le (at + e.1.size) _ code end rest r.2 in omega (arith, le)

starts_le : (at : ℕ) (bytes : List ℕ) (code : List Placed) (end : ℕ) (rest : List ℕ) → Reads at bytes code end rest → (k : ℕ) (d : ℕ) → k < length (starts_of code) → get_or (starts_of code) k d ≤ end
starts_le at bytes [] end rest r k d l = absurd (omega arith)
starts_le at bytes (e ∷ code) end rest r zero d l =
    let le = reads_le (at + e.1.size) _ code end rest r.2 in
    let here : e.0 ≡ at = r.0 in
    omega (arith, le, here)
starts_le at bytes (e ∷ code) end rest r (suc k) d l =
    starts_le (at + e.1.size) _ code end rest r.2 k d (omega arith)

bound_le : (starts : List ℕ) (size place : ℕ) → All (λ p. p ≤ size) starts → IsBound starts size place → place ≤ size
bound_le starts size place all (inl c) = All-contains (λ p. p ≤ size) starts place all c
bound_le starts size place all (inr e) = omega (arith, e)

clause_range : (starts : List ℕ) (size : ℕ) → All (λ p. p ≤ size) starts → (c : RawClause) → IsClause starts size c → IsRange size (clause_of c)
clause_range starts size all c is =
    record {
      some_try = is.some_try;
      try_within = bound_le starts size (c.try_at + c.try_len) all is.try_end;
      some_handler = is.some_handler;
      handler_within = bound_le starts size (c.handler_at + c.handler_len) all is.handler_end;
    }

-- a clause has twelve bytes and more
length-clauses_from : (fat : Bool) (bytes : List ℕ) (at n : ℕ) → length (clauses_from fat bytes at n) ≡ n
length-clauses_from fat bytes at zero = refl
length-clauses_from fat bytes at (suc n) = ap suc (length-clauses_from fat bytes (at + clause_width fat) n)

width_count : (fat : Bool) (size : ℕ) → 12 * ((size - 4) / clause_width fat) ≤ size
width_count true size = omega arith
width_count false size = omega arith

section_few : (bytes : List ℕ) (s : Section) → 12 * length (clauses_of bytes s) ≤ s.size
section_few bytes s =
    let w = width_count s.is_fat s.size in
    let l = length-clauses_from s.is_fat bytes (s.at + 4) ((s.size - 4) / clause_width s.is_fat) in
    omega (arith, w, l)

chain_few : (bytes : List ℕ) (at : ℕ) (ss : List Section) (end : ℕ) → Chained bytes at ss end → at + 12 * length (all_clauses bytes ss) ≤ end
chain_few bytes at [] end c = omega (arith, c)
chain_few bytes at (s ∷ ss) end c =
    let here = section_few bytes s in
    let behind = chain_few bytes (at + s.size) ss end c.2 in
    let l = length-append (clauses_of bytes s) (all_clauses bytes ss) in
    omega (arith, here, behind, l)

sections_few : (bytes : List ℕ) (at : ℕ) (ss : List Section) → AreSections bytes at ss → 12 * length (all_clauses bytes ss) ≤ length bytes
sections_few bytes at ss a =
    let front = chain_few bytes at a.front a.end a.chained in
    let here = section_few bytes a.last in
    let within = a.is_last.within in
    let all : all_clauses bytes ss ≡ all_clauses bytes a.front ++ (clauses_of bytes a.last ++ []) =
    ap (all_clauses bytes) a.all ∙ flat_map-append (clauses_of bytes) a.front (a.last ∷ []) in
    let l = length-append (all_clauses bytes a.front) (clauses_of bytes a.last ++ []) in
    let m = length-append (clauses_of bytes a.last) [] in
    let n = ap length all in
    omega (arith, front, here, within, l, m, n)

has_few : (bytes : List ℕ) (h : Header) (ss : List Section) (b : Bool) → MatchBool b (AreSections bytes (sections_place h) ss) (ss ≡ []) → 12 * length (all_clauses bytes ss) ≤ length bytes
has_few bytes h ss true a = sections_few bytes (sections_place h) ss a
has_few bytes h ss false e =
    let n = ap (λ (xs : List Section). length (all_clauses bytes xs)) e in omega (arith, n)

pub ranges_of : (bytes : List ℕ) (limit : ℕ) (body : Body) → length bytes ≤ 2 ^ 31 → IsBody bytes limit body → HasRanges body
ranges_of bytes limit body short b =
    let raw : List RawClause = all_clauses bytes b.sections in
    let starts : All (λ p. p ≤ b.header.size) (starts_of b.code) =
    starts_le 0 _ b.code b.header.size [] b.has.aimed.is_code.reads in
    let each : All (λ c. IsRange b.header.size (clause_of c)) raw =
    All-weaker (IsClause (starts_of b.code) b.header.size) (λ c. IsRange b.header.size (clause_of c))
    (clause_range (starts_of b.code) b.header.size starts) raw b.has.are_clauses in
    let mapped : All (IsRange b.header.size) (map clause_of raw) = All-map (IsRange b.header.size) clause_of raw each in
    let few = has_few bytes b.header b.sections b.header.has_sections b.has.has_sections in
    let l : length (map clause_of raw) ≡ length raw = simp length-map in
    subst HasRanges (sym b.is) (record { ranges = mapped; few = omega (arith, few, l, short) })
