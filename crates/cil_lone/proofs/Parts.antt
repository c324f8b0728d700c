-- What the parts of a lone body's reading hand on.
use Rattle.std.proofs.Common.{◌≡◌, ℕ, ◌+◌, ◌<◌, ◌≤◌, List, [], ◌∷◌, ◌++◌, length, take, drop, Ok, Err, sym, ◌∙◌, ap, subst, inr, arith}
use Rattle.std.proofs.lemmas.List.{drop-take, drop-drop, length-drop}
use Rattle.cil_instruction.specs.declared.instruction.Simple.{Simple}
use Rattle.cil_lone.specs.declared.standalone.Stop.{Stop}
use Rattle.cil_lone.specs.declared.standalone.Stop.TheVariants.{NotYet as NotYetHere, Truncated as TruncatedHere}
use Rattle.cil_lone.specs.declared.standalone.LoneFault.{LoneFault}
use Rattle.cil_lone.specs.declared.standalone.LoneFault.TheVariants.{BadHeader, Truncated, NotYet, Underflow, BadReturn, Trailing}
use Rattle.cil_lone.specs.Row.{size_of}
use Rattle.cil_lone.specs.Cut.{Placed, Cuts, lone_at}
use Rattle.cil_lone.specs.Lone.{code_bytes, IsWhole, IsCut, IsBreak, Stops, IsLoneFault, stop_of}
use Rattle.cil_lone.proofs.Cut.{Cuts-push}
use Rattle.cil_lone.proofs.Fields.{lone_at-stood}

-- the bytes behind the header, up to the code's end
pub code_of_front : (file : List ℕ) (size : ℕ) → drop 1 (take (size + 1) file) ≡ code_bytes file size
code_of_front file size =
    let one_more : size + 1 ≡ 1 + size = omega arith in
    ap (λ (n : ℕ). drop 1 (take n file)) one_more ∙ drop-take 1 size file

-- a cut grows by the instruction that stands at its end
pub cut_step :
    (body : List ℕ) (code : List Placed) (at after : ℕ) (i : Simple) → Cuts 1 (drop 1 body) code at (drop at body) → lone_at (drop at body) ≡ Ok i → after ≡ at + size_of i.op → Cuts 1 (drop 1 body) (code ++ (at, i) ∷ []) after (drop after body)
cut_step body code at after i h k is =
    let grown = Cuts-push 1 (drop 1 body) code at (drop at body) i h k in
    let rest : drop (size_of i.op) (drop at body) ≡ drop (at + size_of i.op) body = drop-drop (size_of i.op) at body in
    let here : Cuts 1 (drop 1 body) (code ++ (at, i) ∷ []) (at + size_of i.op) (drop (at + size_of i.op) body) =
    subst (λ (xs : List ℕ). Cuts 1 (drop 1 body) (code ++ (at, i) ∷ []) (at + size_of i.op) xs) rest grown in
    subst (λ (n : ℕ). Cuts 1 (drop 1 body) (code ++ (at, i) ∷ []) n (drop n body)) (sym is) here

-- an instruction ends within the bytes
pub cut_within :
    (body : List ℕ) (at after : ℕ) (i : Simple) → at < length body → lone_at (drop at body) ≡ Ok i → after ≡ at + size_of i.op → after ≤ length body
cut_within body at after i less h is =
    let s : size_of i.op ≤ length (drop at body) = (lone_at-stood (drop at body) i h).within in
    omega (arith, length-drop at body)

module _ (file : List ℕ) (size : ℕ) (code : List Placed) (at : ℕ) (whole : IsWhole file size) (cut : Cuts 1 (drop 1 (take (size + 1) file)) code at (drop at (take (size + 1) file))) (within : at < length (take (size + 1) file)) where
  stops : Stops file at (drop at (take (size + 1) file))
  stops =
      record {
        size = size;
        whole = whole;
        code = code;
        cut = subst (λ (xs : List ℕ). Cuts 1 xs code at (drop at (take (size + 1) file))) (code_of_front file size) cut;
        more = λ none.
            let n : length (drop at (take (size + 1) file)) ≡ 0 = ap length none in
            let m = length-drop at (take (size + 1) file) in
            omega arith;
      }

  -- a cut that can't grow
  pub cut_stop : (stop : Stop) → lone_at (drop at (take (size + 1) file)) ≡ Err stop → IsLoneFault file (stop_of stop at)
  cut_stop (NotYetHere byte) h = (drop at (take (size + 1) file), stops, h)
  cut_stop TruncatedHere h = inr (drop at (take (size + 1) file), stops, h)

-- the fault of code that is cut
pub break_fault : (file : List ℕ) (size : ℕ) (code : List Placed) (fault : LoneFault) → IsCut file size code → IsBreak code (size + 1) fault → IsLoneFault file fault
break_fault file size code (BadHeader place) cut b = absurd b
break_fault file size code (Truncated place) cut b = absurd b
break_fault file size code (NotYet byte place) cut b = absurd b
break_fault file size code (Underflow place) cut b = (record { size = size; code = code; cut = cut; fine = b.0 }, b.1)
break_fault file size code (BadReturn place) cut b = (record { size = size; code = code; cut = cut; fine = b.0 }, b.1)
break_fault file size code (Trailing place) cut b = absurd b
