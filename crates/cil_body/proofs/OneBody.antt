-- Bytes begin with one body, or have one fault.
use Rattle.std.proofs.Common.{◌≡◌, ℕ, zero, suc, ◌+◌, ◌-◌, ◌<◌, ◌≤◌, Bool, true, false, List, [], All, refl, sym, ◌∙◌, ap, subst, inl, inr, arith, MatchBool}
use Rattle.std.proofs.lemmas.Bool.{cases_order}
use Rattle.cil_body.specs.declared.header.Header.{Header}
use Rattle.cil_body.specs.declared.section.Section.{Section}
use Rattle.cil_body.specs.declared.section.RawClause.{RawClause}
use Rattle.cil_body.specs.declared.body.Body.{Body}
use Rattle.cil_instruction.specs.declared.fault.BodyFault.{BodyFault}
use Rattle.cil_instruction.specs.declared.fault.BodyCause.{BodyCause}
use Rattle.cil_instruction.specs.declared.fault.BodyCause.TheVariants.{BadHeader, TooLong, Truncated, BadOpcode, OutOfProfile, BadTarget, BadSection, OutOfProfileClause}
use Rattle.dc_causes.specs.First.{IsFirstOff}
use Rattle.cil_body.specs.Header.{IsHeader, IsBadHeader}
use Rattle.cil_body.specs.Code.{Placed, IsWhole, IsCode, IsAimed, code_of, starts_of}
use Rattle.cil_body.specs.Section.{HasSections, AreSections, all_clauses, sections_place, IsClause, IsTaken, IsBadSection}
use Rattle.cil_body.specs.Body.{IsAimedCode, HasClauses, body_of, IsBody, IsTooLong, IsShort, StopsAt, IsBadTarget, HasBadSection, IsLeftOutClause, IsWrong, IsBodyFault}
use Rattle.dc_causes.proofs.First.{not_off, one_first}
use Rattle.cil_body.proofs.OneHeader.{one_header, no_bad_header, one_bad_header}
use Rattle.cil_body.proofs.OneCode.{one_code, stops_not, one_stop}
use Rattle.cil_body.proofs.OneChain.{one_list, no_bad_section, one_bad_section}

-- How far the reading of the bytes comes, from nothing to the whole body.
abbrev pub Reaches : List ℕ → ℕ → ℕ → Type 0
Reaches bytes limit zero = Unit {0}
Reaches bytes limit (suc zero) = (h : Header) × IsHeader bytes h
Reaches bytes limit (suc (suc zero)) = (h : Header) × IsHeader bytes h × (h.size ≤ limit)
Reaches bytes limit (suc (suc (suc zero))) = (h : Header) × IsWhole bytes limit h
Reaches bytes limit (suc (suc (suc (suc zero)))) = (h : Header) × (code : List Placed) × IsCode bytes limit h code
Reaches bytes limit (suc (suc (suc (suc (suc zero))))) = (h : Header) × (code : List Placed) × IsAimedCode bytes limit h code
Reaches bytes limit (suc (suc (suc (suc (suc (suc zero)))))) =
    (h : Header) × (code : List Placed) × (sections : List Section) × HasClauses bytes limit h code sections
Reaches bytes limit (suc (suc (suc (suc (suc (suc (suc n))))))) =
    (h : Header) × (code : List Placed) × (sections : List Section) × HasClauses bytes limit h code sections
    × All IsTaken (all_clauses bytes sections)

-- what reaches further reaches less
reaches_less : (bytes : List ℕ) (limit n : ℕ) → Reaches bytes limit (suc n) → Reaches bytes limit n
reaches_less bytes limit zero r = tt
reaches_less bytes limit (suc zero) r = (r.0, r.1)
reaches_less bytes limit (suc (suc zero)) r = (r.0, r.1.header, r.1.short)
reaches_less bytes limit (suc (suc (suc zero))) r = (r.0, r.2.whole)
reaches_less bytes limit (suc (suc (suc (suc zero)))) r = (r.0, r.1, r.2.is_code)
reaches_less bytes limit (suc (suc (suc (suc (suc zero))))) r = (r.0, r.1, r.3.aimed)
reaches_less bytes limit (suc (suc (suc (suc (suc (suc zero)))))) r = (r.0, r.1, r.2, r.3)
reaches_less bytes limit (suc (suc (suc (suc (suc (suc (suc n))))))) r = r

reaches_lower : (bytes : List ℕ) (limit n k : ℕ) → Reaches bytes limit (k + n) → Reaches bytes limit n
reaches_lower bytes limit n zero r =
    let e : 0 + n ≡ n = omega arith in subst (λ (m : ℕ). Reaches bytes limit m) e r
reaches_lower bytes limit n (suc k) r =
    let e : suc k + n ≡ suc (k + n) = omega arith in
    reaches_lower bytes limit n k (reaches_less bytes limit (k + n) (subst (λ (m : ℕ). Reaches bytes limit m) e r))

reaches_below : (bytes : List ℕ) (limit m n : ℕ) → m ≤ n → Reaches bytes limit n → Reaches bytes limit m
reaches_below bytes limit m n le r =
    let e : n ≡ (n - m) + m = omega arith in
    reaches_lower bytes limit m (n - m) (subst (λ (x : ℕ). Reaches bytes limit x) e r)

-- the fault that ends the reading at each of these points
abbrev pub EndsAt : List ℕ → ℕ → ℕ → BodyFault → Type 0
EndsAt bytes limit zero f = (f.cause ≡ BadHeader) × IsBadHeader bytes f.at
EndsAt bytes limit (suc zero) f = (f.cause ≡ TooLong) × IsTooLong bytes limit f.at
EndsAt bytes limit (suc (suc zero)) f = (f.cause ≡ Truncated) × IsShort bytes limit f.at
EndsAt bytes limit (suc (suc (suc zero))) f = StopsAt bytes limit f.at f.cause
EndsAt bytes limit (suc (suc (suc (suc zero)))) f = (f.cause ≡ BadTarget) × IsBadTarget bytes limit f.at
EndsAt bytes limit (suc (suc (suc (suc (suc zero))))) f = (f.cause ≡ BadSection) × HasBadSection bytes limit f.at
EndsAt bytes limit (suc (suc (suc (suc (suc (suc zero)))))) f =
    (kind : ℕ) × (f.cause ≡ OutOfProfileClause kind) × IsLeftOutClause bytes limit f.at kind
EndsAt bytes limit (suc (suc (suc (suc (suc (suc (suc n))))))) f = ⊥

-- each fault ends the reading at some point
pub ends_somewhere : (bytes : List ℕ) (limit place : ℕ) (cause : BodyCause) → IsWrong bytes limit place cause → (n : ℕ) × EndsAt bytes limit n (record { cause = cause; at = place })
ends_somewhere bytes limit place BadHeader w = (0, (refl, w))
ends_somewhere bytes limit place TooLong w = (1, (refl, w))
ends_somewhere bytes limit place Truncated (inl w) = (2, (refl, w))
ends_somewhere bytes limit place Truncated (inr w) = (3, w)
ends_somewhere bytes limit place (BadOpcode code) w = (3, w)
ends_somewhere bytes limit place (OutOfProfile code) w = (3, w)
ends_somewhere bytes limit place BadTarget w = (4, (refl, w))
ends_somewhere bytes limit place BadSection w = (5, (refl, w))
ends_somewhere bytes limit place (OutOfProfileClause kind) w = (6, (kind, refl, w))

-- up to there it comes
ends_reached : (bytes : List ℕ) (limit n : ℕ) (f : BodyFault) → EndsAt bytes limit n f → Reaches bytes limit n
ends_reached bytes limit zero f e = tt
ends_reached bytes limit (suc zero) f e = (e.1.0, e.1.1)
ends_reached bytes limit (suc (suc zero)) f e = (e.1.0, e.1.1, e.1.2)
ends_reached bytes limit (suc (suc (suc zero))) f e = (e.0, e.2.whole)
ends_reached bytes limit (suc (suc (suc (suc zero)))) f e = (e.1.0, e.1.1, e.1.2)
ends_reached bytes limit (suc (suc (suc (suc (suc zero))))) f e = (e.1.0, e.1.1, e.1.2)
ends_reached bytes limit (suc (suc (suc (suc (suc (suc zero)))))) f e = (e.2.0, e.2.1, e.2.2, e.2.3)
ends_reached bytes limit (suc (suc (suc (suc (suc (suc (suc n))))))) f e = absurd e

-- one header, code and list of sections
same_aims :
    (bytes : List ℕ) (limit : ℕ) (h k : Header) (code other : List Placed) → IsCode bytes limit h code → IsAimedCode bytes limit k other → All (IsAimed (code_of bytes h) (starts_of code)) code
same_aims bytes limit h k code other a b =
    let same = one_code bytes limit k h other code b.is_code a in
    subst (λ (c : List Placed). All (IsAimed (code_of bytes h) (starts_of c)) c) same.1
    (subst (λ (x : Header). All (IsAimed (code_of bytes x) (starts_of other)) other) same.0 b.aimed)

sections_of_more : (bytes : List ℕ) (h : Header) (ss : List Section) → h.has_sections ≡ true → HasSections bytes h ss → AreSections bytes (sections_place h) ss
sections_of_more bytes h ss more has =
    subst (λ (b : Bool). MatchBool b (AreSections bytes (sections_place h) ss) (ss ≡ [])) more has

same_sections :
    (bytes : List ℕ) (h : Header) (ss ts : List Section) (b : Bool) → MatchBool b (AreSections bytes (sections_place h) ss) (ss ≡ []) → MatchBool b (AreSections bytes (sections_place h) ts) (ts ≡ []) → ss ≡ ts
same_sections bytes h ss ts true a b = one_list bytes (sections_place h) ss ts a b
same_sections bytes h ss ts false a b = a ∙ sym b

-- all that the bytes hold is fixed by them
pub one_whole :
    (bytes : List ℕ) (limit : ℕ) (h k : Header) (code other : List Placed) (ss ts : List Section) → HasClauses bytes limit h code ss → HasClauses bytes limit k other ts → (h ≡ k) × (code ≡ other) × (ss ≡ ts)
one_whole bytes limit h k code other ss ts a b =
    let same = one_code bytes limit h k code other a.aimed.is_code b.aimed.is_code in
    let has : HasSections bytes h ts = subst (λ (x : Header). HasSections bytes x ts) (sym same.0) b.has_sections in
    (same.0, same.1, same_sections bytes h ss ts h.has_sections a.has_sections has)

no_bad_clauses :
    (bytes : List ℕ) (limit place : ℕ) (h k : Header) (code other : List Placed) (ss : List Section) → HasClauses bytes limit h code ss → IsAimedCode bytes limit k other → k.has_sections ≡ true → IsBadSection bytes (starts_of other) k.size (sections_place k) place → ⊥
no_bad_clauses bytes limit place h k code other ss a b more bad =
    let same = one_code bytes limit h k code other a.aimed.is_code b.is_code in
    let has : HasSections bytes k ss = subst (λ (x : Header). HasSections bytes x ss) same.0 a.has_sections in
    let by_size : All (IsClause (starts_of code) k.size) (all_clauses bytes ss) =
    subst (λ (x : Header). All (IsClause (starts_of code) x.size) (all_clauses bytes ss)) same.0 a.are_clauses in
    let all : All (IsClause (starts_of other) k.size) (all_clauses bytes ss) =
    subst (λ (c : List Placed). All (IsClause (starts_of c) k.size) (all_clauses bytes ss)) same.1 by_size in
    no_bad_section bytes (starts_of other) k.size (sections_place k) place ss (sections_of_more bytes k ss more has) all bad

-- and no further
ends_not_further : (bytes : List ℕ) (limit n : ℕ) (f : BodyFault) → EndsAt bytes limit n f → Reaches bytes limit (suc n) → ⊥
ends_not_further bytes limit zero f e r = no_bad_header bytes r.0 f.at r.1 e.1
ends_not_further bytes limit (suc zero) f e r =
    let same : e.1.0 ≡ r.0 = one_header bytes e.1.0 r.0 e.1.1 r.1 in
    let size = ap (λ (h : Header). h.size) same in
    absurd (omega (arith, size, e.1.2, r.2))
ends_not_further bytes limit (suc (suc zero)) f e r =
    let same : e.1.0 ≡ r.0 = one_header bytes e.1.0 r.0 e.1.1 r.1.header in
    let size = ap (λ (h : Header). h.size) same in
    let start = ap (λ (h : Header). h.start) same in
    absurd (omega (arith, size, start, e.1.3, r.1.within))
ends_not_further bytes limit (suc (suc (suc zero))) f e r = stops_not bytes limit r.0 e.0 r.1 e.1 f.cause r.2 e.2
ends_not_further bytes limit (suc (suc (suc (suc zero)))) f e r =
    not_off (IsAimed (code_of bytes e.1.0) (starts_of e.1.1)) e.1.1 e.1.3.0
    (same_aims bytes limit e.1.0 r.0 e.1.1 r.1 e.1.2 r.2) e.1.3.1
ends_not_further bytes limit (suc (suc (suc (suc (suc zero))))) f e r =
    no_bad_clauses bytes limit f.at r.0 e.1.0 r.1 e.1.1 r.2 r.3 e.1.2 e.1.3 e.1.4
ends_not_further bytes limit (suc (suc (suc (suc (suc (suc zero)))))) f e r =
    let same = one_whole bytes limit r.0 e.2.0 r.1 e.2.1 r.2 e.2.2 r.3 e.2.3 in
    not_off IsTaken (all_clauses bytes e.2.2) e.2.4.0
    (subst (λ (ss : List Section). All IsTaken (all_clauses bytes ss)) same.2 r.4) e.2.4.1
ends_not_further bytes limit (suc (suc (suc (suc (suc (suc (suc n))))))) f e r = absurd e

fault_eq : (f g : BodyFault) → f.cause ≡ g.cause → f.at ≡ g.at → f ≡ g
fault_eq f g p q =
    let cause : f ≡ record { cause = g.cause; at = f.at } = ap (λ (c : BodyCause). record { cause = c; at = f.at }) p in
    let at : ◌≡◌ {A = BodyFault} (record { cause = g.cause; at = f.at }) g = ap (λ (a : ℕ). record { cause = g.cause; at = a }) q in
    cause ∙ at

one_target :
    (bytes : List ℕ) (limit p q : ℕ) → IsBadTarget bytes limit p → IsBadTarget bytes limit q → p ≡ q
one_target bytes limit p q a b =
    let same = one_code bytes limit b.0 a.0 b.1 a.1 b.2 a.2 in
    let here : IsFirstOff (IsAimed (code_of bytes a.0) (starts_of b.1)) b.1 b.3.0 =
    subst (λ (h : Header). IsFirstOff (IsAimed (code_of bytes h) (starts_of b.1)) b.1 b.3.0) same.0 b.3.1 in
    let there : IsFirstOff (IsAimed (code_of bytes a.0) (starts_of a.1)) a.1 b.3.0 =
    subst (λ (c : List Placed). IsFirstOff (IsAimed (code_of bytes a.0) (starts_of c)) c b.3.0) same.1 here in
    let first : a.3.0 ≡ b.3.0 = one_first (IsAimed (code_of bytes a.0) (starts_of a.1)) a.1 a.3.0 b.3.0 a.3.1 there in
    a.3.2 ∙ ap (λ (h : Header). h.start + a.3.0.0) (sym same.0) ∙ ap (λ (e : Placed). b.0.start + e.0) first ∙ sym b.3.2

one_bad :
    (bytes : List ℕ) (limit p q : ℕ) → HasBadSection bytes limit p → HasBadSection bytes limit q → p ≡ q
one_bad bytes limit p q a b =
    let same = one_code bytes limit b.0 a.0 b.1 a.1 b.2.is_code a.2.is_code in
    let by_header : IsBadSection bytes (starts_of b.1) a.0.size (sections_place a.0) q =
    subst (λ (h : Header). IsBadSection bytes (starts_of b.1) h.size (sections_place h) q) same.0 b.4 in
    let by_code : IsBadSection bytes (starts_of a.1) a.0.size (sections_place a.0) q =
    subst (λ (c : List Placed). IsBadSection bytes (starts_of c) a.0.size (sections_place a.0) q) same.1 by_header in
    one_bad_section bytes (starts_of a.1) a.0.size (sections_place a.0) p q a.4 by_code

one_left_out :
    (bytes : List ℕ) (limit p q k l : ℕ) → IsLeftOutClause bytes limit p k → IsLeftOutClause bytes limit q l → (p ≡ q) × (k ≡ l)
one_left_out bytes limit p q k l a b =
    let same = one_whole bytes limit b.0 a.0 b.1 a.1 b.2 a.2 b.3 a.3 in
    let there : IsFirstOff IsTaken (all_clauses bytes a.2) b.4.0 =
    subst (λ (ss : List Section). IsFirstOff IsTaken (all_clauses bytes ss) b.4.0) same.2 b.4.1 in
    let first : a.4.0 ≡ b.4.0 = one_first IsTaken (all_clauses bytes a.2) a.4.0 b.4.0 a.4.1 there in
    (a.4.2 ∙ ap (λ (c : RawClause). c.at) first ∙ sym b.4.2, a.4.3 ∙ ap (λ (c : RawClause). c.kind) first ∙ sym b.4.3)

one_stopping : (bytes : List ℕ) (limit : ℕ) (f g : BodyFault) → StopsAt bytes limit f.at f.cause → StopsAt bytes limit g.at g.cause → f ≡ g
one_stopping bytes limit f g a b =
    let r = one_stop bytes limit a.0 b.0 a.1 b.1 f.cause g.cause a.2 b.2 in
    fault_eq f g r.2
    (a.3 ∙ ap (λ (h : Header). h.start + a.1) r.0 ∙ ap (λ (p : ℕ). b.0.start + p) r.1 ∙ sym b.3)

-- at each point one fault ends it
one_end : (bytes : List ℕ) (limit n : ℕ) (f g : BodyFault) → EndsAt bytes limit n f → EndsAt bytes limit n g → f ≡ g
one_end bytes limit zero f g a b = fault_eq f g (a.0 ∙ sym b.0) (one_bad_header bytes f.at g.at a.1 b.1)
one_end bytes limit (suc zero) f g a b = fault_eq f g (a.0 ∙ sym b.0) (a.1.3 ∙ sym b.1.3)
one_end bytes limit (suc (suc zero)) f g a b = fault_eq f g (a.0 ∙ sym b.0) (a.1.4 ∙ sym b.1.4)
one_end bytes limit (suc (suc (suc zero))) f g a b = one_stopping bytes limit f g a b
one_end bytes limit (suc (suc (suc (suc zero)))) f g a b =
    fault_eq f g (a.0 ∙ sym b.0) (one_target bytes limit f.at g.at a.1 b.1)
one_end bytes limit (suc (suc (suc (suc (suc zero))))) f g a b =
    fault_eq f g (a.0 ∙ sym b.0) (one_bad bytes limit f.at g.at a.1 b.1)
one_end bytes limit (suc (suc (suc (suc (suc (suc zero)))))) f g a b =
    let r = one_left_out bytes limit f.at g.at a.0 b.0 a.2 b.2 in
    fault_eq f g (a.1 ∙ ap OutOfProfileClause r.1 ∙ sym b.1) r.0
one_end bytes limit (suc (suc (suc (suc (suc (suc (suc n))))))) f g a b = absurd a

-- a later end reaches past an earlier one
ends_apart : (bytes : List ℕ) (limit m n : ℕ) (f g : BodyFault) → EndsAt bytes limit m f → EndsAt bytes limit n g → m < n → ⊥
ends_apart bytes limit m n f g a b less =
    ends_not_further bytes limit m f a (reaches_below bytes limit (suc m) n (omega arith) (ends_reached bytes limit n g b))

one_ending : (bytes : List ℕ) (limit m n : ℕ) (f g : BodyFault) → EndsAt bytes limit m f → EndsAt bytes limit n g → f ≡ g
one_ending bytes limit m n f g a b =
    elim (cases_order m n) [
      | inl e ↦ one_end bytes limit n f g (subst (λ (x : ℕ). EndsAt bytes limit x f) e a) b
      | inr w ↦ elim w [
        | inl less ↦ absurd (ends_apart bytes limit m n f g a b less)
        | inr less ↦ absurd (ends_apart bytes limit n m g f b a less)
      ]
    ]

pub one_fault : (bytes : List ℕ) (limit : ℕ) (f g : BodyFault) → IsBodyFault bytes limit f → IsBodyFault bytes limit g → f ≡ g
one_fault bytes limit f g a b =
    let m = ends_somewhere bytes limit f.at f.cause a in
    let n = ends_somewhere bytes limit g.at g.cause b in
    one_ending bytes limit m.0 n.0 f g m.1 n.1

ends_within : (bytes : List ℕ) (limit n : ℕ) (f : BodyFault) → EndsAt bytes limit n f → n < 7
ends_within bytes limit zero f e = omega arith
ends_within bytes limit (suc zero) f e = omega arith
ends_within bytes limit (suc (suc zero)) f e = omega arith
ends_within bytes limit (suc (suc (suc zero))) f e = omega arith
ends_within bytes limit (suc (suc (suc (suc zero)))) f e = omega arith
ends_within bytes limit (suc (suc (suc (suc (suc zero))))) f e = omega arith
ends_within bytes limit (suc (suc (suc (suc (suc (suc zero)))))) f e = omega arith
ends_within bytes limit (suc (suc (suc (suc (suc (suc (suc n))))))) f e = absurd e

pub no_fault : (bytes : List ℕ) (limit : ℕ) (body : Body) (f : BodyFault) → IsBody bytes limit body → IsBodyFault bytes limit f → ⊥
no_fault bytes limit body f b a =
    let m = ends_somewhere bytes limit f.at f.cause a in
    let less = ends_within bytes limit m.0 f m.1 in
    let whole : Reaches bytes limit 7 = (b.header, b.code, b.sections, b.has, b.taken) in
    ends_not_further bytes limit m.0 f m.1 (reaches_below bytes limit (suc m.0) 7 (omega arith) whole)

pub one_body : (bytes : List ℕ) (limit : ℕ) (body other : Body) → IsBody bytes limit body → IsBody bytes limit other → body ≡ other
one_body bytes limit body other a b =
    let same = one_whole bytes limit a.header b.header a.code b.code a.sections b.sections a.has b.has in
    a.is ∙ ap (λ (h : Header). body_of bytes h a.code a.sections) same.0
    ∙ ap (λ (c : List Placed). body_of bytes b.header c a.sections) same.1
    ∙ ap (λ (ss : List Section). body_of bytes b.header b.code ss) same.2 ∙ sym b.is
