-- How far a text is written.
use Rattle.std.proofs.Common.{◌≡◌, ℕ, ◌≤◌, ◌+◌, List, ◌++◌, length, take, drop, Ok, ap, ◌∙◌, sym, arith, append_assoc}
use Rattle.std.proofs.lemmas.List.{take-append-drop, take-append-le, length-take, length-drop}
use Rattle.std.proofs.Math.Seq.{take-add}
use Rattle.dc_outside.specs.Outside.{Puts, CountsPut, HasRisen}
use Rattle.ilspy_cli.specs.Outcome.{sunk, IsWritten, IsCutShort}

-- the first `done` bytes of the text are written, and the count of faults stands where it stood
pub record Progress (old new : List ℕ) (before now : ℕ) (text : List ℕ) (done : ℕ) : Type 0 where
  pub within : done ≤ length text
  pub written : IsWritten (sunk old new before now) (take done text)

-- a front of a front is a front of the whole
take-take : (n size : ℕ) (xs : List ℕ) → n ≤ length (take size xs) → take n (take size xs) ≡ take n xs
take-take n size xs h = sym (take-append-le n (take size xs) (drop size xs) h) ∙ ap (take n) (take-append-drop size xs)

-- the bytes before and now, with these added
abbrev Adds : List ℕ → List ℕ → List ℕ → Type 0
Adds old new text = new ≡ old ++ text

-- two pieces added one after the other
adds_both : (old mid new : List ℕ) (a b : List ℕ) → Adds old mid a → Adds mid new b → Adds old new (a ++ b)
adds_both old mid new a b p q = q ∙ ap (λ bytes. bytes ++ b) p ∙ append_assoc old a b

-- a put takes the text further
pub further : (old mid new : List ℕ) (before at now : ℕ) (text : List ℕ) (piece : List ℕ) (done n : ℕ) → Progress old mid before at text done → piece ≡ take (length piece) (drop done text) → Puts piece mid new (Ok n) → CountsPut at now (Ok n) → Progress old new before now text (done + n)
further old mid new before at now text piece done n p next put count =
    let within : n ≤ length (take (length piece) (drop done text)) = omega (arith, put.1, ap length next) in
    let short : n ≤ length (drop done text) = omega (arith, within, length-take (length piece) (drop done text)) in
    let front : take n piece ≡ take n (drop done text) = ap (take n) next ∙ take-take n (length piece) (drop done text) within in
    record {
      within = omega (arith, p.within, length-drop done text);
      written = record {
        adds = rw (take-add done n text, ← front) (adds_both old mid new (take done text) (take n piece) p.written.adds put.2);
        unfailed = count ∙ p.written.unfailed;
      };
    }

-- a put that failed leaves a front of the text
pub cut_short : (old mid new : List ℕ) (before at now : ℕ) (text : List ℕ) (done : ℕ) → Progress old mid before at text done → new ≡ mid → HasRisen at now → IsCutShort (sunk old new before now) text
cut_short old mid new before at now text done p put count = record {
  front = take done text;
  rest = drop done text;
  whole = sym (take-append-drop done text);
  adds = put ∙ p.written.adds;
  risen = rw p.written.unfailed at count;
}
