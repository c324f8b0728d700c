-- How far a piece is written.
use Rattle.std.proofs.Common.{◌≡◌, ◌≤◌, ◌+◌, ℕ, List, length, take, drop, Option, arith, ap, sym, subst}
use Rattle.std.proofs.Math.Seq.{take-add}
use Rattle.std.proofs.lemmas.List.{length-drop}
use Rattle.std.proofs.KnownBytes.{Appends-trans}
use Rattle.std.specs.Io.KnownBytes.{Appends}

-- a write takes the piece further
pub further : (a b c : Option (List ℕ)) (piece rest : List ℕ) (done n : ℕ) → rest ≡ drop done piece → done ≤ length piece → n ≤ length rest → Appends a b (take done piece)
    → Appends b c (take n rest) → (done + n ≤ length piece) × Appends a c (take (done + n) piece)
further a b c piece rest done n next within fits before more = (
  omega (arith, within, fits, ap length next, length-drop done piece),
  subst (Appends a c) (sym (take-add done n piece)) (Appends-trans a b c (take done piece) (take n (drop done piece)) before (subst (λ l. Appends b c (take n l)) next more)),
)
