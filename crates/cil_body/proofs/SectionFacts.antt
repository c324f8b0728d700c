-- The sections behind the code and their clauses.
use Rattle.std.proofs.Common.{◌≡◌, inl, inr, ℕ, zero, suc, ◌+◌, ◌*◌, ◌%◌, ◌<◌, ◌≤◌, Bool, true, false, not, List, [], ◌∷◌, ◌++◌, length, get_or, Result, Ok, Err, refl, sym, ap, ◌∙◌, subst, arith, All, IsTrue, MatchBool}
use Rattle.std.specs.Result.{is_ok}
use Rattle.std.specs.List.{Contains}
use Rattle.std.specs.List.Sorted.{IsBinarySearchResult}
use Rattle.std.specs.Ordering.{nat_cmp}
use Rattle.std.proofs.lemmas.List.{get_or_default, flat_map_more}
use Rattle.std.proofs.lemmas.List.Sorted.{searched}
use Rattle.std.proofs.lemmas.List.Elements.{Contains-get_or, All-nil, All-append}
use Rattle.std.proofs.lemmas.Bool.{cases_lt}
use Rattle.cil_body.specs.declared.header.Header.{Header}
use Rattle.cil_body.specs.declared.section.Section.{Section}
use Rattle.cil_body.specs.declared.section.RawClause.{RawClause}
use Rattle.cil_instruction.specs.declared.fault.BodyFault.{BodyFault}
use Rattle.dc_base.specs.declared.failure.Or.{Or}
use Rattle.dc_base.specs.declared.failure.Or.TheVariants.{NoMemory, Fault}
use Rattle.dc_causes.specs.First.{IsFirstOff}
use Rattle.cil_body.specs.Code.{AreInOrder}
use Rattle.cil_body.specs.Section.{IsBound, IsClause, IsSection, AreClauses, IsBadSection, IsSectionFault, IsClauseBroken, clause_width, clause_at, clauses_from, clauses_of, all_clauses, Chained, AreSections, HasSections, sections_place}

-- ---- bounds

not_there : (starts : List ℕ) (place i : ℕ) → ((k : ℕ) → k < i → get_or starts k 0 < place) → ((k : ℕ) → i ≤ k → k < length starts → place < get_or starts k 0) → Contains starts place → ⊥
not_there starts place i below above h =
    let e : get_or starts h.0 0 ≡ place = get_or_default starts h.0 0 place h.1 ∙ h.2 in
    elim (cases_lt h.0 i) [ inl lt ↦ omega (arith, below h.0 lt, e) | inr le ↦ omega (arith, above h.0 le h.1, e) ]

-- a bound that isn't the code's end is found among the starts
pub bound_found : (starts : List ℕ) (size place : ℕ) (r : Result ℕ ℕ) → AreInOrder starts → IsBinarySearchResult (λ y. nat_cmp y place) starts r → (place ≡ size → ⊥) → (IsTrue (is_ok r) → IsBound starts size place) × (IsBound starts size place → IsTrue (is_ok r))
bound_found starts size place (Ok i) order found other =
    let s = searched starts place (Ok i) found order in
    (λ _. inl (subst (λ (x : ℕ). Contains starts x) s.1 (Contains-get_or starts i 0 s.0)), λ _. refl)
bound_found starts size place (Err i) order found other =
    let s = searched starts place (Err i) found order in
    (λ e. absurd cc, λ b. elim b [ inl h ↦ absurd (not_there starts place i s.1 s.2 h) | inr e ↦ absurd (other e) ])

-- ---- the clauses of a section

pub length-clauses_from : (fat : Bool) (bytes : List ℕ) (at n : ℕ) → length (clauses_from fat bytes at n) ≡ n
length-clauses_from fat bytes at zero = refl
length-clauses_from fat bytes at (suc n) = ap suc (length-clauses_from fat bytes (at + clause_width fat) n)

pub get_or-clauses_from : (fat : Bool) (bytes : List ℕ) (at n k : ℕ) (d : RawClause) → k < n → get_or (clauses_from fat bytes at n) k d ≡ clause_at fat bytes (at + k * clause_width fat)
get_or-clauses_from fat bytes at zero k d lt = absurd (omega arith)
get_or-clauses_from fat bytes at (suc n) zero d lt =
    let e : at ≡ at + 0 * clause_width fat = omega arith in
    ap (λ (x : ℕ). clause_at fat bytes x) e
get_or-clauses_from fat bytes at (suc n) (suc k) d lt =
    let e : at + clause_width fat + k * clause_width fat ≡ at + suc k * clause_width fat = omega arith in
    get_or-clauses_from fat bytes (at + clause_width fat) n k d (omega arith) ∙ ap (λ (x : ℕ). clause_at fat bytes x) e

-- one more clause behind the others
pub clauses_more : (fat : Bool) (bytes : List ℕ) (at n : ℕ) → clauses_from fat bytes at (suc n) ≡ clauses_from fat bytes at n ++ clause_at fat bytes (at + n * clause_width fat) ∷ []
clauses_more fat bytes at zero =
    let e : at ≡ at + 0 * clause_width fat = omega arith in
    ap (λ (x : ℕ). clause_at fat bytes x ∷ []) e
clauses_more fat bytes at (suc n) =
    let e : at + clause_width fat + n * clause_width fat ≡ at + suc n * clause_width fat = omega arith in
    ap (λ (cs : List RawClause). clause_at fat bytes at ∷ cs)
    (clauses_more fat bytes (at + clause_width fat) n ∙ ap (λ (x : ℕ). clauses_from fat bytes (at + clause_width fat) n ++ clause_at fat bytes x ∷ []) e)

pub place_of_clause : (fat : Bool) (bytes : List ℕ) (at : ℕ) → (clause_at fat bytes at).at ≡ at
place_of_clause true bytes at = refl
place_of_clause false bytes at = refl

-- all clauses before this one are clauses of the standard, and it is none
pub first_broken : (starts : List ℕ) (size : ℕ) (fat : Bool) (bytes : List ℕ) (at n i : ℕ) → i < n → All (IsClause starts size) (clauses_from fat bytes at i) → (IsClause starts size (clause_at fat bytes (at + i * clause_width fat)) → ⊥) → IsFirstOff (IsClause starts size) (clauses_from fat bytes at n) (clause_at fat bytes (at + i * clause_width fat))
first_broken starts size fat bytes at n i lt fine off =
    record {
      index = i;
      within = omega (arith, length-clauses_from fat bytes at n);
      is = get_or-clauses_from fat bytes at n i _ lt;
      before = λ k d l.
          let long : k < length (clauses_from fat bytes at i) = omega (arith, length-clauses_from fat bytes at i) in
          let below : k < n = omega arith in
          subst (IsClause starts size) (get_or-clauses_from fat bytes at i k d l ∙ sym (get_or-clauses_from fat bytes at n k d below)) (fine k d long);
      off = off;
    }

-- ---- the sections

long_size : (fat : Bool) (size : ℕ) → size % clause_width fat ≡ 4 → 4 ≤ size
long_size true size e = omega arith
long_size false size e = omega arith

pub section_long : (bytes : List ℕ) (at : ℕ) (s : Section) → IsSection bytes at s → 4 ≤ s.size
section_long bytes at s is = long_size s.is_fat s.size is.whole

pub Chained-more : (bytes : List ℕ) (at : ℕ) (front : List Section) (end : ℕ) (s : Section) → Chained bytes at front end → IsSection bytes end s → s.has_more ≡ true → Chained bytes at (front ++ s ∷ []) (end + s.size)
Chained-more bytes at [] end s e is more =
    (subst (λ (x : ℕ). IsSection bytes x s) e is, more, ap (λ (x : ℕ). x + s.size) e)
Chained-more bytes at (x ∷ front) end s chained is more =
    (chained.0, chained.1, Chained-more bytes (at + x.size) front end s chained.2 is more)

pub all_clauses-push : (bytes : List ℕ) (front : List Section) (s : Section) (cs ds : List RawClause) → cs ≡ all_clauses bytes front → ds ≡ cs ++ clauses_of bytes s → ds ≡ all_clauses bytes (front ++ s ∷ [])
all_clauses-push bytes front s cs ds e f =
    f ∙ ap (λ (x : List RawClause). x ++ clauses_of bytes s) e ∙ flat_map_more (clauses_of bytes) [] front s

all_fine : (starts : List ℕ) (size : ℕ) (cs bs ds : List RawClause) → All (IsClause starts size) cs → All (IsClause starts size) bs → ds ≡ cs ++ bs → All (IsClause starts size) ds
all_fine starts size cs bs ds fine more e =
    subst (λ (x : List RawClause). All (IsClause starts size) x) (sym e) (All-append (IsClause starts size) cs bs fine more)

match_true : (b : Bool) (P Q : Type 0) → not b ≡ false → P → MatchBool b P Q
match_true true P Q e p = p
match_true false P Q e p = absurd cc

pub are_sections : (bytes : List ℕ) (h : Header) (front : List Section) (end : ℕ) (last : Section) → not h.has_sections ≡ false → Chained bytes (sections_place h) front end → IsSection bytes end last → last.has_more ≡ false → HasSections bytes h (front ++ last ∷ [])
are_sections bytes h front end last has chained is none =
    match_true h.has_sections (AreSections bytes (sections_place h) (front ++ last ∷ [])) (front ++ last ∷ [] ≡ []) has
    (record { front = front; end = end; last = last; all = refl; chained = chained; is_last = is; no_more = none })

-- ---- the loop over the sections

pub sections_true : (b : Bool) → not b ≡ false → b ≡ true
sections_true true e = refl
sections_true false e = absurd cc

-- the sections so far, of which all clauses were read
pub record AreRead (bytes starts : List ℕ) (h : Header) (at : ℕ) (cs : List RawClause) : Type 0 where
  pub front : List Section
  pub chained : Chained bytes (sections_place h) front at
  pub items : cs ≡ all_clauses bytes front
  pub fine : All (IsClause starts h.size) cs

pub none_read : (bytes starts : List ℕ) (h : Header) (at : ℕ) (cs : List RawClause) → cs ≡ [] → at ≡ sections_place h → AreRead bytes starts h at cs
none_read bytes starts h at cs e is =
    record {
      front = [];
      chained = is;
      items = e;
      fine = subst (λ (x : List RawClause). All (IsClause starts h.size) x) (sym e) (All-nil (IsClause starts h.size));
    }

pub fine_so_far : {bytes starts : List ℕ} {h : Header} {at : ℕ} {cs : List RawClause} → (r : AreRead bytes starts h at cs) → All (IsClause starts h.size) (all_clauses bytes r.front)
fine_so_far {starts = starts} {h = h} r = subst (λ (x : List RawClause). All (IsClause starts h.size) x) r.items r.fine

-- no section stands where one is due
pub section_missing : {bytes starts : List ℕ} {h : Header} {at : ℕ} {cs : List RawClause} → AreRead bytes starts h at cs → (place : ℕ) → place ≡ at → ((s : Section) → IsSection bytes at s → ⊥) → IsBadSection bytes starts h.size (sections_place h) place
section_missing {at = at} r place e never =
    record { front = r.front; due = at; chained = r.chained; fine = fine_so_far r; wrong = inl (e, never) }

-- a clause of the section that is due is none
pub section_broken : {bytes starts : List ℕ} {h : Header} {at : ℕ} {cs : List RawClause} → AreRead bytes starts h at cs → (s : Section) → IsSection bytes at s → h.has_sections ≡ true → (e : Or BodyFault) → IsClauseBroken bytes s starts h.size e → IsSectionFault bytes h starts e
section_broken r s is has NoMemory broken = tt
section_broken {at = at} r s is has (Fault fault) broken =
    let bad : IsBadSection _ _ _ _ fault.at = record { front = r.front; due = at; chained = r.chained; fine = fine_so_far r; wrong = inr (s, broken.1.0, is, broken.1.1, broken.1.2) } in
    (has, broken.0, bad)

-- the clauses of one more section
pub more_read : {bytes starts : List ℕ} {h : Header} {at : ℕ} {cs : List RawClause} → AreRead bytes starts h at cs → (s : Section) (ds : List RawClause) → IsSection bytes at s → s.has_more ≡ true → ds ≡ cs ++ clauses_of bytes s → All (IsClause starts h.size) (clauses_of bytes s) → AreRead bytes starts h (at + s.size) ds
more_read {bytes = bytes} {starts = starts} {h = h} {at = at} {cs = cs} r s ds is more e fine =
    record {
      front = r.front ++ s ∷ [];
      chained = Chained-more bytes (sections_place h) r.front at s r.chained is more;
      items = all_clauses-push bytes r.front s cs ds r.items e;
      fine = all_fine starts h.size cs (clauses_of bytes s) ds r.fine fine e;
    }

-- the clauses of the last section
pub all_read : {bytes starts : List ℕ} {h : Header} {at : ℕ} {cs : List RawClause} → AreRead bytes starts h at cs → (s : Section) (ds : List RawClause) → IsSection bytes at s → s.has_more ≡ false → not h.has_sections ≡ false → ds ≡ cs ++ clauses_of bytes s → All (IsClause starts h.size) (clauses_of bytes s) → AreClauses bytes h starts ds
all_read {bytes = bytes} {starts = starts} {h = h} {at = at} {cs = cs} r s ds is none has e fine = (
  r.front ++ s ∷ [],
  are_sections bytes h r.front at s has r.chained is none,
  all_clauses-push bytes r.front s cs ds r.items e,
  all_fine starts h.size cs (clauses_of bytes s) ds r.fine fine e,
)
