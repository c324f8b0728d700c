-- Bytes have one code, or it stops in one way.
use Rattle.std.proofs.Common.{◌≡◌, ℕ, ◌+◌, List, [], ◌∷◌, drop, Result, Ok, Err, refl, sym, ◌∙◌, ap, subst}
use Rattle.cil_instruction.specs.declared.instruction.Found.{Found}
use Rattle.cil_body.specs.declared.header.Header.{Header}
use Rattle.cil_instruction.specs.declared.fault.BodyCause.{BodyCause}
use Rattle.cil_instruction.specs.Instruction.{instruction_at}
use Rattle.cil_body.specs.Code.{Placed, Reads, code_of, IsCode, IsStop}
use Rattle.cil_body.proofs.OneHeader.{one_header}

-- no instruction stands at these bytes
abbrev pub HasNone : List ℕ → Type 0
HasNone bytes = (f : Found) → instruction_at bytes ≡ Ok f → ⊥

pub HasNone-nil : HasNone []
HasNone-nil f h = cc

pub HasNone-from_cause : (bytes : List ℕ) (cause : BodyCause) → instruction_at bytes ≡ Err cause → HasNone bytes
HasNone-from_cause bytes cause h f k = cc

placed_eq : (a b : ℕ) (f g : Found) → a ≡ b → f ≡ g → ◌≡◌ {A = Placed} (a, f) (b, g)
placed_eq a b f g p q =
    let first : ◌≡◌ {A = Placed} (a, f) (b, f) = ap (λ (x : ℕ). (x, f)) p in
    let second : ◌≡◌ {A = Placed} (b, f) (b, g) = ap (λ (y : Found). (b, y)) q in
    first ∙ second

-- two cuts of the same bytes that both stop where no instruction stands are one
pub Reads-unique :
    (at : ℕ) (bytes : List ℕ) (code : List Placed) (end : ℕ) (rest : List ℕ) (other : List Placed) (end' : ℕ) (rest' : List ℕ) → Reads at bytes code end rest → HasNone rest → Reads at bytes other end' rest' → HasNone rest' → (code ≡ other) × (end ≡ end') × (rest ≡ rest')
Reads-unique at bytes [] end rest [] end' rest' h n k m = (refl, h.0 ∙ sym k.0, h.1 ∙ sym k.1)
Reads-unique at bytes [] end rest (f ∷ other) end' rest' h n k m = absurd (n f.1 (ap instruction_at h.1 ∙ k.1))
Reads-unique at bytes (e ∷ code) end rest [] end' rest' h n k m = absurd (m e.1 (ap instruction_at k.1 ∙ h.1))
Reads-unique at bytes (e ∷ code) end rest (f ∷ other) end' rest' h n k m =
    let same : e.1 ≡ f.1 = cc (h.1, k.1) in
    let tail : Reads (at + e.1.size) (drop e.1.size bytes) other end' rest' =
    subst (λ (i : Found). Reads (at + i.size) (drop i.size bytes) other end' rest') (sym same) k.2 in
    let r = Reads-unique (at + e.1.size) (drop e.1.size bytes) code end rest other end' rest' h.2 n tail m in
    let head : e ≡ f = placed_eq e.0 f.0 e.1 f.1 (h.0 ∙ sym k.0) same in
    (ap (λ x. x ∷ code) head ∙ ap (λ xs. f ∷ xs) r.0, r.1, r.2)

pub one_code :
    (bytes : List ℕ) (limit : ℕ) (h k : Header) (code other : List Placed) → IsCode bytes limit h code → IsCode bytes limit k other → (h ≡ k) × (code ≡ other)
one_code bytes limit h k code other a b =
    let same : h ≡ k = one_header bytes h k a.whole.header b.whole.header in
    let reads : Reads 0 (code_of bytes h) other h.size [] =
    subst (λ (x : Header). Reads 0 (code_of bytes x) other x.size []) (sym same) b.reads in
    (same, (Reads-unique 0 (code_of bytes h) code h.size [] other h.size [] a.reads HasNone-nil reads HasNone-nil).0)

-- where the cut stops, the code isn't cut
pub stops_not :
    (bytes : List ℕ) (limit : ℕ) (h k : Header) (code : List Placed) (place : ℕ) (cause : BodyCause) → IsCode bytes limit h code → IsStop bytes limit k place cause → ⊥
stops_not bytes limit h k code place cause a s =
    let same : h ≡ k = one_header bytes h k a.whole.header s.whole.header in
    let reads : Reads 0 (code_of bytes k) code k.size [] =
    subst (λ (x : Header). Reads 0 (code_of bytes x) code x.size []) same a.reads in
    s.more (Reads-unique 0 (code_of bytes k) s.code place s.rest code k.size [] s.reads (HasNone-from_cause s.rest cause s.none) reads HasNone-nil).2

-- the cut stops at one place for one reason
pub one_stop :
    (bytes : List ℕ) (limit : ℕ) (h k : Header) (p q : ℕ) (c d : BodyCause) → IsStop bytes limit h p c → IsStop bytes limit k q d → (h ≡ k) × (p ≡ q) × (c ≡ d)
one_stop bytes limit h k p q c d s t =
    let same : h ≡ k = one_header bytes h k s.whole.header t.whole.header in
    let reads : Reads 0 (code_of bytes h) t.code q t.rest =
    subst (λ (x : Header). Reads 0 (code_of bytes x) t.code q t.rest) (sym same) t.reads in
    let r = Reads-unique 0 (code_of bytes h) s.code p s.rest t.code q t.rest s.reads (HasNone-from_cause s.rest c s.none) reads (HasNone-from_cause t.rest d t.none) in
    let errs : ◌≡◌ {A = Result Found BodyCause} (Err c) (Err d) = sym s.none ∙ ap instruction_at r.2 ∙ t.none in
    let cause : c ≡ d = cc in
    (same, r.1, cause)
