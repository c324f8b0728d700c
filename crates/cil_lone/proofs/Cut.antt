-- A cut is grown at its end, is the only one of its bytes, and its places rise.
use Rattle.std.proofs.Common.{◌≡◌, ℕ, ◌+◌, ◌<◌, ◌≤◌, List, [], ◌∷◌, ◌++◌, drop, Ok, refl, sym, ◌∙◌, ap, subst, arith}
use Rattle.cil_instruction.specs.declared.opcode.Op.{Op}
use Rattle.cil_instruction.specs.declared.opcode.Op.TheVariants.{LdcI4S, LdcI4}
use Rattle.cil_instruction.specs.declared.instruction.Simple.{Simple}
use Rattle.cil_lone.specs.Row.{size_of}
use Rattle.cil_lone.specs.Cut.{Placed, Cuts, IsConsecutive, lone_at}

-- no instruction stands at these bytes
abbrev pub HasNone : List ℕ → Type 0
HasNone bytes = (i : Simple) → lone_at bytes ≡ Ok i → ⊥

pub HasNone-nil : HasNone []
HasNone-nil i h = cc

pub placed_eq : (a b : ℕ) (i j : Simple) → a ≡ b → i ≡ j → ◌≡◌ {A = Placed} (a, i) (b, j)
placed_eq a b i j p q =
    let first : ◌≡◌ {A = Placed} (a, i) (b, i) = ap (λ (x : ℕ). (x, i)) p in
    let second : ◌≡◌ {A = Placed} (b, i) (b, j) = ap (λ (y : Simple). (b, y)) q in
    first ∙ second

-- one more instruction behind a cut
pub Cuts-push :
    (at : ℕ) (bytes : List ℕ) (code : List Placed) (end : ℕ) (rest : List ℕ) (i : Simple) → Cuts at bytes code end rest → lone_at rest ≡ Ok i → Cuts at bytes (code ++ (end, i) ∷ []) (end + size_of i.op) (drop (size_of i.op) rest)
Cuts-push at bytes [] end rest i h k =
    (h.0, ap lone_at (sym h.1) ∙ k, (ap (λ n. n + size_of i.op) h.0, ap (drop (size_of i.op)) h.1))
Cuts-push at bytes (e ∷ code) end rest i h k =
    (h.0, h.1, Cuts-push (at + size_of e.1.op) (drop (size_of e.1.op) bytes) code end rest i h.2 k)

-- two cuts of the same bytes that both stop where no instruction stands are one
pub Cuts-unique :
    (at : ℕ) (bytes : List ℕ) (code : List Placed) (end : ℕ) (rest : List ℕ) (other : List Placed) (end' : ℕ) (rest' : List ℕ) → Cuts at bytes code end rest → HasNone rest → Cuts at bytes other end' rest' → HasNone rest' → (code ≡ other) × (end ≡ end') × (rest ≡ rest')
Cuts-unique at bytes [] end rest [] end' rest' h n k m = (refl, h.0 ∙ sym k.0, h.1 ∙ sym k.1)
Cuts-unique at bytes [] end rest (f ∷ other) end' rest' h n k m = absurd (n f.1 (ap lone_at h.1 ∙ k.1))
Cuts-unique at bytes (e ∷ code) end rest [] end' rest' h n k m = absurd (m e.1 (ap lone_at k.1 ∙ h.1))
Cuts-unique at bytes (e ∷ code) end rest (f ∷ other) end' rest' h n k m =
    let same : e.1 ≡ f.1 = cc (h.1, k.1) in
    let tail : Cuts (at + size_of e.1.op) (drop (size_of e.1.op) bytes) other end' rest' =
    subst (λ (i : Simple). Cuts (at + size_of i.op) (drop (size_of i.op) bytes) other end' rest') (sym same) k.2 in
    let r = Cuts-unique (at + size_of e.1.op) (drop (size_of e.1.op) bytes) code end rest other end' rest' h.2 n tail m in
    let head : e ≡ f = placed_eq e.0 f.0 e.1 f.1 (h.0 ∙ sym k.0) same in
    (ap (λ x. x ∷ code) head ∙ ap (λ xs. f ∷ xs) r.0, r.1, r.2)

-- what is cut is consecutive
pub Cuts-consecutive : (at : ℕ) (bytes : List ℕ) (code : List Placed) (end : ℕ) (rest : List ℕ) → Cuts at bytes code end rest → IsConsecutive at code end
Cuts-consecutive at bytes [] end rest h = h.0
Cuts-consecutive at bytes (e ∷ code) end rest h =
    (h.0, Cuts-consecutive (at + size_of e.1.op) (drop (size_of e.1.op) bytes) code end rest h.2)

pub size_of-positive : (op : Op) → 0 < size_of op
size_of-positive LdcI4S = omega arith
size_of-positive LdcI4 = omega arith
size_of-positive _ = omega arith

pub consecutive_le : (at : ℕ) (code : List Placed) (end : ℕ) → IsConsecutive at code end → at ≤ end
consecutive_le at [] end h = omega arith
consecutive_le at (e ∷ code) end h =
    let r = consecutive_le (at + size_of e.1.op) code end h.1 in
    omega arith

-- an instruction stands from the first place on, and before the last
pub consecutive_place :
    (at : ℕ) (before : List Placed) (place : ℕ) (i : Simple) (after : List Placed) (end : ℕ) → IsConsecutive at (before ++ (place, i) ∷ after) end → (at ≤ place) × (place < end)
consecutive_place at [] place i after end h =
    let r = consecutive_le (at + size_of i.op) after end h.1 in
    let s = size_of-positive i.op in
    (omega arith, omega arith)
consecutive_place at (e ∷ before) place i after end h =
    let r = consecutive_place (at + size_of e.1.op) before place i after end h.1 in
    (omega arith, omega arith)

-- at one place stands one instruction
pub consecutive_once :
    (at : ℕ) (before before' : List Placed) (place : ℕ) (i j : Simple) (after after' : List Placed) (end : ℕ) → IsConsecutive at (before ++ (place, i) ∷ after) end → before ++ (place, i) ∷ after ≡ before' ++ (place, j) ∷ after' → i ≡ j
consecutive_once at [] [] place i j after after' end h e =
    let head : ◌≡◌ {A = Placed} (place, i) (place, j) = cc in
    ap (λ (x : Placed). x.1) head
consecutive_once at [] (f ∷ before') place i j after after' end h e =
    let tail : after ≡ before' ++ (place, j) ∷ after' = cc in
    let r =
    consecutive_place (at + size_of i.op) before' place j after' end
    (subst (λ (xs : List Placed). IsConsecutive (at + size_of i.op) xs end) tail h.1) in
    let s = size_of-positive i.op in
    absurd (omega arith)
consecutive_once at (f ∷ before) [] place i j after after' end h e =
    let r = consecutive_place (at + size_of f.1.op) before place i after end h.1 in
    let head : f ≡ (place, j) = cc in
    let same : f.0 ≡ place = ap (λ (x : Placed). x.0) head in
    let s = size_of-positive f.1.op in
    absurd (omega arith)
consecutive_once at (f ∷ before) (g ∷ before') place i j after after' end h e =
    let tail : before ++ (place, i) ∷ after ≡ before' ++ (place, j) ∷ after' = cc in
    consecutive_once (at + size_of f.1.op) before before' place i j after after' end h.1 tail
