-- The machine of a lone body, one instruction at a time.
use Rattle.std.proofs.Common.{◌≡◌, ℕ, zero, suc, ◌+◌, ◌^◌, ◌<◌, ◌≤◌, cond, List, [], ◌∷◌, length, None, Some, ℤ, pos, negsuc, FitsSigned, w32, refl, ap, ◌∙◌, arith}
use Rattle.std.specs.Prelude.{find, option_map, ◌==◌}
use Rattle.std.proofs.lemmas.Bool.{eq-eqb, ne_eqb, lt-ltb}
use Rattle.cil_instruction.specs.declared.instruction.Simple.{Simple}
use Rattle.cil_instruction.specs.declared.opcode.Op.{Op}
use Rattle.cil_instruction.specs.declared.opcode.Op.TheVariants.{LdcI4, LdcI4S}
use Rattle.cil_lone.specs.Row.{size_of}
use Rattle.cil_lone.specs.Cut.{Placed, IsConsecutive}
use Rattle.cil_meaning.specs.declared.machine.LoneState.{LoneState}
use Rattle.cil_meaning.specs.declared.machine.LoneStepped.{LoneStepped}
use Rattle.cil_meaning.specs.declared.machine.LoneStepped.TheVariants.{Next, Done, Stuck}
use Rattle.cil_meaning.specs.Step.{int_of, onward_of, act_of, standing_at, step_of, step}
use Rattle.cil_meaning.specs.Meaning.{and_then, steps, start_of, CilReturns}

-- an instruction has a byte at least
instructions_have_bytes : (op : Op) → 0 < size_of op
instructions_have_bytes LdcI4S = omega arith
instructions_have_bytes LdcI4 = omega arith
instructions_have_bytes _ = omega arith

-- the instruction at the head stands at its place
standing_here : (e : Placed) (code : List Placed) (place : ℕ) → e.0 ≡ place → standing_at (e ∷ code) place ≡ Some e.1
standing_here e code place h =
    ap (λ b. option_map (λ (p : Placed). p.1) (cond b (Some e) (find (λ (p : Placed). p.0 == place) code))) (eq-eqb e.0 place h)

-- what stands behind it stands in what follows it
standing_later : (e : Placed) (code : List Placed) (place : ℕ) → e.0 < place →
    standing_at (e ∷ code) place ≡ standing_at code place
standing_later e code place h =
    ap (λ b. option_map (λ (p : Placed). p.1) (cond b (Some e) (find (λ (p : Placed). p.0 == place) code))) (ne_eqb e.0 place (λ same. omega arith))

-- from this place on, the whole code has the same instructions as the rest
pub record SameFrom (at : ℕ) (whole rest : List Placed) : Type 0 where
  pub same : (place : ℕ) → at ≤ place → standing_at whole place ≡ standing_at rest place

-- the whole code is the rest before its first instruction
pub SameFrom-start : (at : ℕ) (code : List Placed) → SameFrom at code code
SameFrom-start at code = record { same = λ place le. refl }

-- behind an instruction, the rest is what follows it
pub SameFrom-behind : (at : ℕ) (whole : List Placed) (e : Placed) (code : List Placed) → e.0 ≡ at →
    SameFrom at whole (e ∷ code) → SameFrom (at + size_of e.1.op) whole code
SameFrom-behind at whole e code h s =
    let some = instructions_have_bytes e.1.op in
    record { same = λ place le. s.same place (omega arith) ∙ standing_later e code place (omega arith) }

-- the instruction at the head acts
pub step_here : (whole : List Placed) (e : Placed) (code : List Placed) (s : LoneState) → e.0 ≡ s.at →
    SameFrom s.at whole (e ∷ code) → step whole s ≡ act_of e.1 s
step_here whole e code s h same = ap (λ o. step_of o s) (same.same s.at (omega arith) ∙ standing_here e code s.at h)

-- the code's end isn't before its first place
pub consecutive_le : (at : ℕ) (code : List Placed) (end : ℕ) → IsConsecutive at code end → at ≤ end
consecutive_le at [] end h = omega arith
consecutive_le at (e ∷ code) end h = let le = consecutive_le (at + size_of e.1.op) code end h.1 in omega arith

-- it has room for each instruction
pub consecutive_length : (at : ℕ) (code : List Placed) (end : ℕ) → IsConsecutive at code end → at + length code ≤ end
consecutive_length at [] end h = omega arith
consecutive_length at (e ∷ code) end h =
    let some = instructions_have_bytes e.1.op in
    let le = consecutive_length (at + size_of e.1.op) code end h.1 in
    omega arith

-- below place 2^32 there is a next state
pub onward_below : (i : Simple) (s : LoneState) (stack : List ℤ) → s.at + size_of i.op < 2 ^ 32 →
    onward_of i s stack ≡ Next (record s { at = s.at + size_of i.op; stack = stack })
onward_below i s stack h =
    ap (λ b. cond b (Next (record s { at = s.at + size_of i.op; stack = stack })) Stuck) (lt-ltb (s.at + size_of i.op) (2 ^ 32) h)

-- an int is one
pub int_of_fits : (n : ℤ) → FitsSigned w32 n → int_of n ≡ Some n
int_of_fits (pos n) fits = let e : n < 2 ^ 31 = fits.sfits in ap (λ b. cond b (Some (pos n)) None) (lt-ltb n (2 ^ 31) e)
int_of_fits (negsuc n) fits = let e : n < 2 ^ 31 = fits.sfits in ap (λ b. cond b (Some (negsuc n)) None) (lt-ltb n (2 ^ 31) e)

-- from this state the machine ends with this number
pub record Ends (whole : List Placed) (s : LoneState) (v : ℤ) : Type 0 where
  pub count : ℕ
  pub done : steps whole count s ≡ Done v

-- it does so where the next state does
pub Ends-next : (whole : List Placed) (s t : LoneState) (v : ℤ) → step whole s ≡ Next t → Ends whole t v → Ends whole s v
Ends-next whole s t v h ends = record { count = suc ends.count; done = ap (λ r. and_then r (steps whole ends.count)) h ∙ ends.done }

-- or where the step is the last one
pub Ends-done : (whole : List Placed) (s : LoneState) (v : ℤ) → step whole s ≡ Done v → Ends whole s v
Ends-done whole s v h = record { count = 1; done = ap (λ r. and_then r (steps whole zero)) h }

-- two ends of one step are the same where two ends of the next state are
one_step : (r : LoneStepped) (f g : LoneState → LoneStepped) (v w : ℤ) →
    ((s : LoneState) → f s ≡ Done v → g s ≡ Done w → v ≡ w) → and_then r f ≡ Done v → and_then r g ≡ Done w → v ≡ w
one_step (Next s) f g v w same a b = same s a b
one_step (Done u) f g v w same a b = cc
one_step Stuck f g v w same a b = cc

-- two ends of one run are the same
one_end : (whole : List Placed) (m n : ℕ) (v w : ℤ) (s : LoneState) → steps whole m s ≡ Done v → steps whole n s ≡ Done w →
    v ≡ w
one_end whole zero n v w s a b = cc
one_end whole (suc m) zero v w s a b = cc
one_end whole (suc m) (suc n) v w s a b = one_step (step whole s) (steps whole m) (steps whole n) v w (one_end whole m n v w) a b

-- code returns one number at most for the same arguments
pub CilReturns-functional : (code : List Placed) (args : List ℤ) (v w : ℤ) → CilReturns code args v → CilReturns code args w →
    v ≡ w
CilReturns-functional code args v w a b = one_end code a.0 b.0 v w (start_of args) a.1 b.1
