-- The ranges of an image are in its file.
use Rattle.std.proofs.Common.{◌≡◌, ℕ, ◌+◌, ◌≤◌, Bool, true, List, [], ◌∷◌, length, Some, refl, subst, inl, inr, arith}
use Rattle.std.specs.Prelude.{find}
use Rattle.pe_image.specs.declared.sections.Section.{Section}
use Rattle.pe_image.specs.declared.sections.Span.{Span}
use Rattle.pe_image.specs.Sections.{holds, range_at, range_from}
use Rattle.pe_image.specs.Within.{AreWithin}
use Rattle.dc_causes.proofs.Order.{all_head, all_tail}
use Rattle.pe_image.proofs.Options.{chosen, mapped}

-- the raw bytes of a section are in the file
abbrev pub IsWithin : List ℕ → Section → Type 0
IsWithin file s = s.start + s.size ≤ length file

-- a section that is found passes the test, and its raw bytes are in the file
pub found_is : (p : Section → Bool) (file : List ℕ) (ss : List Section) (s : Section) → AreWithin file ss → find p ss ≡ Some s → (p s ≡ true) × (s.start + s.size ≤ length file)
found_is p file [] s are e = absurd cc
found_is p file (x ∷ ss) s are e =
    elim (chosen (p x) x s (find p ss) e) [
      | inl h ↦ subst (λ (y : Section). (p y ≡ true) × (y.start + y.size ≤ length file)) h.1 (h.0, all_head (IsWithin file) x ss are)
      | inr h ↦ found_is p file ss s (all_tail (IsWithin file) x ss are) h.1
    ]

pub holds_means : (rva len : ℕ) (s : Section) → holds rva len s ≡ true → (s.address ≤ rva) × (rva + len ≤ s.address + s.size)
holds_means rva len s e = grind arith

pub range_at-within : (file : List ℕ) (ss : List Section) (rva len : ℕ) (range : Span) → AreWithin file ss → range_at ss rva len ≡ Some range → (range.start + range.len ≤ length file) × (range.len ≡ len)
range_at-within file ss rva len range are e =
    let found = mapped _ (find (holds rva len) ss) range e in
    let s = found.0 in
    let is = found_is (holds rva len) file ss s are found.1 in
    let held = holds_means rva len s is.0 in
    subst (λ (r : Span). (r.start + r.len ≤ length file) × (r.len ≡ len)) found.2 (omega (arith, held.0, held.1, is.1), refl)

pub range_from-within : (file : List ℕ) (ss : List Section) (rva : ℕ) (range : Span) → AreWithin file ss → range_from ss rva ≡ Some range → range.start + range.len ≤ length file
range_from-within file ss rva range are e =
    let found = mapped _ (find (holds rva 1) ss) range e in
    let s = found.0 in
    let is = found_is (holds rva 1) file ss s are found.1 in
    let held = holds_means rva 1 s is.0 in
    subst (λ (r : Span). r.start + r.len ≤ length file) found.2 (omega (arith, held.0, held.1, is.1))
