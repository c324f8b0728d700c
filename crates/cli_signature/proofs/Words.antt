-- A language of words within another, behind some bytes.
use Rattle.std.proofs.Common.{◌≡◌, ◌≢◌, ℕ, ◌+◌, List, [], ◌∷◌, ◌++◌, length, refl, sym, ap, subst, ◌∙◌, arith}
use Rattle.std.proofs.lemmas.List.{append_assoc, length-append}
use Rattle.cli_signature.specs.declared.raw.SigFault.{SigFault}
use Rattle.cli_signature.specs.declared.raw.SigFault.TheVariants.{Truncated, BadElement, OutOfProfile, Trailing}
use Rattle.cli_signature.specs.Fault.{IsViable}
use Rattle.cli_signature.specs.Reading.{Begins, Stops, IsNotDue, IsDue, IsFaultAt}

-- behind the bytes `p` of a word of W stands a word of V
pub record Within (V W : List ℕ → Type 0) (p : List ℕ) : Type 0 where
  pub close : (v : List ℕ) → V v → (tail : List ℕ) × W (p ++ (v ++ tail))
  pub open_ : (q : List ℕ) → Begins W (p ++ q) → Begins V q

within_viable : (V W : List ℕ → Type 0) (p front : List ℕ) → Within V W p → IsViable V front → IsViable W (p ++ front)
within_viable V W p front h v =
    let c = h.close (front ++ v.0) v.1 in
    (v.0 ++ c.0, subst W (ap (λ (x : List ℕ). p ++ x) (append_assoc front v.0 c.0) ∙ sym (append_assoc p front (v.0 ++ c.0))) c.1)

within_stuck : (V W : List ℕ → Type 0) (p front : List ℕ) (b : ℕ) → Within V W p → ((more : List ℕ) → Begins V (front ++ b ∷ more) → ⊥) → (more : List ℕ) → Begins W ((p ++ front) ++ b ∷ more) → ⊥
within_stuck V W p front b h stuck more g =
    stuck more (h.open_ (front ++ b ∷ more) (subst (Begins W) (append_assoc p front (b ∷ more)) g))

within_stops : (V W : List ℕ → Type 0) (p : List ℕ) (at : ℕ) (bytes : List ℕ) (place byte : ℕ) → Within V W p → Stops V (at + length p) bytes place byte → Stops W at (p ++ bytes) place byte
within_stops V W p at bytes place byte h s =
    record {
      front = p ++ s.front;
      rest = s.rest;
      is = ap (λ (x : List ℕ). p ++ x) s.is ∙ sym (append_assoc p s.front (byte ∷ s.rest));
      there = let e = s.there in omega (arith, length-append p s.front);
      viable = within_viable V W p s.front h s.viable;
      stuck = within_stuck V W p s.front byte h s.stuck;
    }

within_due : (V W : List ℕ → Type 0) (p front : List ℕ) → Within V W p → IsDue V front → IsDue W (p ++ front)
within_due V W p front h due e plain =
    subst (IsViable W) (sym (append_assoc p front (e ∷ []))) (within_viable V W p (front ++ e ∷ []) h (due e plain))

within_not_due : (V W : List ℕ → Type 0) (p front : List ℕ) → Within V W p → IsNotDue V front → IsNotDue W (p ++ front)
within_not_due V W p front h n = (n.0, n.1, within_stuck V W p front n.0 h n.2)

append_not_nil : (xs ys : List ℕ) → xs ≢ [] → xs ++ ys ≢ []
append_not_nil [] ys n e = n refl
append_not_nil (x ∷ xs) ys n e = cc

-- the fault of what stands behind the bytes is the fault of the whole
pub lift : (V W : List ℕ → Type 0) (p : List ℕ) (at : ℕ) (bytes : List ℕ) (fault : SigFault) → Within V W p → IsFaultAt V (at + length p) bytes fault → IsFaultAt W at (p ++ bytes) fault
unfolding within_stops
lift V W p at bytes (Truncated place) h f =
    let c = h.close (bytes ++ f.1.0) f.1.1 in (
      let e = f.0 in omega (arith, length-append p bytes),
      (f.1.0 ++ c.0, subst W (ap (λ (x : List ℕ). p ++ x) (append_assoc bytes f.1.0 c.0) ∙ sym (append_assoc p bytes (f.1.0 ++ c.0))) c.1, append_not_nil f.1.0 c.0 f.1.2),
    )
lift V W p at bytes (BadElement place byte) h f =
    (within_stops V W p at bytes place byte h f.0, λ l. within_not_due V W p f.0.front h (f.1 l))
lift V W p at bytes (OutOfProfile place byte) h f =
    (within_stops V W p at bytes place byte h f.0, within_due V W p f.0.front h f.1, f.2)
lift V W p at bytes (Trailing place) h f = f

-- Within is transitive
pub within_trans : (U V W : List ℕ → Type 0) (p q : List ℕ) → Within U V q → Within V W p → Within U W (p ++ q)
within_trans U V W p q g h =
    record {
      close = λ u m.
          let c = g.close u m in
          let d = h.close (q ++ (u ++ c.0)) c.1 in
          (c.0 ++ d.0, subst W (same u c.0 d.0) d.1);
      open_ = λ r b. g.open_ r (h.open_ (q ++ r) (subst (Begins W) (append_assoc p q r) b));
    }
  where
    same : (u c d : List ℕ) → p ++ ((q ++ (u ++ c)) ++ d) ≡ (p ++ q) ++ (u ++ (c ++ d))
    same u c d = simp append_assoc
