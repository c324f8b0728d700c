-- Code that is cut into instructions: it is cut one by one, its places rise, and each instruction is in its bytes.
use Rattle.std.proofs.Common.{◌≡◌, ◌≢◌, ℕ, zero, suc, ◌+◌, ◌-◌, ◌^◌, ◌<◌, ◌≤◌, Fits, w32, List, [], ◌∷◌, ◌++◌, length, get_or, take, drop, Ok, sym, ◌∙◌, ap, subst, arith}
use Rattle.std.proofs.lemmas.List.{drop-drop, length-drop, take_all}
use Rattle.cil_instruction.specs.declared.instruction.Found.{Found}
use Rattle.cil_instruction.specs.Instruction.{instruction_at}
use Rattle.cil_body.specs.Code.{Placed, Reads, AreInOrder, starts_of}

-- one more instruction behind those that are cut
pub Reads-push :
    (at : ℕ) (bytes : List ℕ) (code : List Placed) (end : ℕ) (rest : List ℕ) (f : Found) → Reads at bytes code end rest → instruction_at rest ≡ Ok f → Reads at bytes (code ++ (end, f) ∷ []) (end + f.size) (drop f.size rest)
Reads-push at bytes [] end rest f h k =
    (h.0, ap instruction_at (sym h.1) ∙ k, (ap (λ n. n + f.size) h.0, ap (drop f.size) h.1))
Reads-push at bytes (e ∷ code) end rest f h k =
    (h.0, h.1, Reads-push (at + e.1.size) (drop e.1.size bytes) code end rest f h.2 k)

-- the same, by the places in the whole code
pub Reads-more :
    (bytes : List ℕ) (code : List Placed) (at after : ℕ) (f : Found) → Reads 0 bytes code at (drop at bytes) → instruction_at (drop at bytes) ≡ Ok f → after ≡ at + f.size → Reads 0 bytes (code ++ (at, f) ∷ []) after (drop after bytes)
Reads-more bytes code at after f h k is =
    let grown = Reads-push 0 bytes code at (drop at bytes) f h k in
    let rest : drop f.size (drop at bytes) ≡ drop (at + f.size) bytes = drop-drop f.size at bytes in
    let here : Reads 0 bytes (code ++ (at, f) ∷ []) (at + f.size) (drop (at + f.size) bytes) =
    subst (λ (xs : List ℕ). Reads 0 bytes (code ++ (at, f) ∷ []) (at + f.size) xs) rest grown in
    subst (λ (n : ℕ). Reads 0 bytes (code ++ (at, f) ∷ []) n (drop n bytes)) (sym is) here

-- the cut stops within the code
pub Reads-stops : (bytes : List ℕ) (at : ℕ) → at < length bytes → drop at bytes ≢ []
Reads-stops bytes at l none =
    let n : length (drop at bytes) ≡ 0 = ap length none in
    let m = length-drop at bytes in
    omega arith

pub Reads-le : (at : ℕ) (bytes : List ℕ) (code : List Placed) (end : ℕ) (rest : List ℕ) → Reads at bytes code end rest → at ≤ end
Reads-le at bytes [] end rest h = omega (arith, h.0)
Reads-le at bytes (e ∷ code) end rest h =
    let r = Reads-le (at + e.1.size) (drop e.1.size bytes) code end rest h.2 in
    omega arith

-- each instruction stands from the first place on, and before the last
pub Reads-place :
    (at : ℕ) (bytes : List ℕ) (code : List Placed) (end : ℕ) (rest : List ℕ) → Reads at bytes code end rest → (k : ℕ) (d : Placed) → k < length code → (at ≤ (get_or code k d).0) × ((get_or code k d).0 + (get_or code k d).1.size ≤ end)
Reads-place at bytes [] end rest h k d l = absurd (omega arith)
Reads-place at bytes (e ∷ code) end rest h zero d l =
    let is = h.0 in
    let r = Reads-le (at + e.1.size) (drop e.1.size bytes) code end rest h.2 in
    (omega arith, omega arith)
Reads-place at bytes (e ∷ code) end rest h (suc k) d l =
    let r = Reads-place (at + e.1.size) (drop e.1.size bytes) code end rest h.2 k d (omega arith) in
    (omega arith, r.1)

pub Reads-before : (at : ℕ) (bytes : List ℕ) (code : List Placed) (end : ℕ) (rest : List ℕ) → Reads at bytes code end rest → (k : ℕ) (d : Placed) → k < length code → (get_or code k d).0 ≤ end
Reads-before at bytes code end rest h k d l =
    let r = Reads-place at bytes code end rest h k d l in
    omega (arith, r.1)

-- a place in a body that isn't too long
pub place_fits : (start place size : ℕ) → start ≤ 12 → size ≤ 2 ^ 31 → place ≤ size → Fits w32 (start + place)
place_fits start place size near short within = omega arith

-- its bytes are those from its place on
pub Reads-at :
    (bytes : List ℕ) (at : ℕ) (code : List Placed) (end : ℕ) (rest : List ℕ) → Reads at (drop at bytes) code end rest → (k : ℕ) (d : Placed) → k < length code → instruction_at (drop (get_or code k d).0 bytes) ≡ Ok (get_or code k d).1
Reads-at bytes at [] end rest h k d l = absurd (omega arith)
Reads-at bytes at (e ∷ code) end rest h zero d l = ap (λ (n : ℕ). instruction_at (drop n bytes)) h.0 ∙ h.1
Reads-at bytes at (e ∷ code) end rest h (suc k) d l =
    let next : Reads (at + e.1.size) (drop (at + e.1.size) bytes) code end rest =
    subst (λ (xs : List ℕ). Reads (at + e.1.size) xs code end rest) (drop-drop e.1.size at bytes) h.2 in
    Reads-at bytes (at + e.1.size) code end rest next k d (omega arith)

starts-place : (at : ℕ) (bytes : List ℕ) (code : List Placed) (end : ℕ) (rest : List ℕ) → Reads at bytes code end rest → (k : ℕ) → k < length (starts_of code) → at ≤ get_or (starts_of code) k 0
starts-place at bytes [] end rest h k l = absurd (omega arith)
starts-place at bytes (e ∷ code) end rest h zero l = omega (arith, h.0)
starts-place at bytes (e ∷ code) end rest h (suc k) l =
    let r = starts-place (at + e.1.size) (drop e.1.size bytes) code end rest h.2 k (omega arith) in
    omega arith

-- the places rise
pub starts-ordered : (at : ℕ) (bytes : List ℕ) (code : List Placed) (end : ℕ) (rest : List ℕ) → Reads at bytes code end rest → AreInOrder (starts_of code)
starts-ordered at bytes [] end rest h i j le l = absurd (omega arith)
starts-ordered at bytes (e ∷ code) end rest h zero j le l =
    let is = h.0 in
    let r = starts-place at bytes (e ∷ code) end rest h j l in
    omega arith
starts-ordered at bytes (e ∷ code) end rest h (suc i) zero le l = absurd (omega arith)
starts-ordered at bytes (e ∷ code) end rest h (suc i) (suc j) le l =
    starts-ordered (at + e.1.size) (drop e.1.size bytes) code end rest h.2 i j (omega arith) (omega arith)

-- the bytes from a place on, as a range gives them
pub tail_is : (at : ℕ) (bytes : List ℕ) → take (length bytes - at) (drop at bytes) ≡ drop at bytes
tail_is at bytes =
    let long = length-drop at bytes in
    take_all (length bytes - at) (drop at bytes) (omega arith)
