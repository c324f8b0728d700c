-- Types are spelled in one way.
use Rattle.std.proofs.Common.{◌≡◌, ℕ, ◌<◌, List, ◌∷◌, ◌++◌, length, drop, refl, sym, ap, subst, ◌∙◌, arith}
use Rattle.std.proofs.Math.Seq.{take-append_seam, drop-append_seam}
use Rattle.dc_base.specs.Spelling.{spelling, BeginsWithNumber}
use Rattle.dc_base.proofs.Spelling.{begins_unique}
use Rattle.cli_signature.specs.declared.element.Part.TheVariants.{SzArray, ByRef, Void as VoidPart}
use Rattle.cli_signature.specs.declared.kind.Slot.{Slot}
use Rattle.cli_signature.specs.Element.{entry_of, part_of}
use Rattle.cli_signature.specs.Grammar.{Shape, Plain, Named, Array, Way, Bare, Lent, Void, IsShape, IsWay, spelled_shape, spelled_way}

pub part-array : part_of 0x1D ≡ SzArray
unfolding entry_of
part-array = refl

pub part-ref : part_of 0x10 ≡ ByRef
unfolding entry_of
part-ref = refl

pub part-void : part_of 0x01 ≡ VoidPart
unfolding entry_of
part-void = refl

-- the bytes begin with the number that they spell
pub begins_from_split : (n : ℕ) (more : List ℕ) → n < 536870912 → BeginsWithNumber (spelling n ++ more) n (length (spelling n))
begins_from_split n more h = record { fits = h; long = refl; spelled = take-append_seam (spelling n) more }

-- of two numbers that begin the same bytes
pub number_unique : (m n : ℕ) (k l : List ℕ) → m < 536870912 → n < 536870912 → spelling m ++ k ≡ spelling n ++ l → (m ≡ n) × (k ≡ l)
number_unique m n k l hm hn e =
    let g = begins_from_split m k hm in
    let h = subst (λ (x : List ℕ). BeginsWithNumber x n (length (spelling n))) (sym e) (begins_from_split n l hn) in
    let u = begins_unique (spelling m ++ k) m n _ _ g h in
    let s : drop (length (spelling m)) (spelling m ++ k) ≡ drop (length (spelling n)) (spelling n ++ l) = cc (e, u.1) in
    (u.0, sym (drop-append_seam (spelling m) k) ∙ s ∙ drop-append_seam (spelling n) l)

pub shape_unique : (s t : Shape) (k l : List ℕ) → IsShape s → IsShape t → spelled_shape s ++ k ≡ spelled_shape t ++ l → (s ≡ t) × (k ≡ l)
shape_unique (Plain a) (Plain b) k l g h e = (let p : a ≡ b = cc in ap Plain p, cc)
shape_unique (Plain a) (Named b n) k l g h e = let p : a ≡ b = cc in absurd (cc (g, h.0, ap part_of p))
shape_unique (Plain a) (Array t) k l g h e = let p : a ≡ 0x1D = cc in absurd (cc (g, part-array, ap part_of p))
shape_unique (Named a m) (Plain b) k l g h e = let p : a ≡ b = cc in absurd (cc (g.0, h, ap part_of p))
shape_unique (Named a m) (Named b n) k l g h e =
    let p : a ≡ b = cc in
    let q : spelling m ++ k ≡ spelling n ++ l = cc in
    let u = number_unique m n k l (let x = g.1.0 in omega arith) (let x = h.1.0 in omega arith) q in
    (ap (λ (x : ℕ). Named x m) p ∙ ap (λ (x : ℕ). Named b x) u.0, u.1)
shape_unique (Named a m) (Array t) k l g h e = let p : a ≡ 0x1D = cc in absurd (cc (g.0, part-array, ap part_of p))
shape_unique (Array s) (Plain b) k l g h e = let p : 0x1D ≡ b = cc in absurd (cc (h, part-array, ap part_of p))
shape_unique (Array s) (Named b n) k l g h e = let p : 0x1D ≡ b = cc in absurd (cc (h.0, part-array, ap part_of p))
shape_unique (Array s) (Array t) k l g h e =
    let q : spelled_shape s ++ k ≡ spelled_shape t ++ l = cc in
    let u = shape_unique s t k l g h q in
    (ap Array u.0, u.1)

-- a type begins with an element that is no BYREF and no VOID
head_part : (s : Shape) (k : List ℕ) (b : ℕ) (m : List ℕ) → IsShape s → spelled_shape s ++ k ≡ b ∷ m → (part_of b ≡ ByRef → ⊥) × (part_of b ≡ VoidPart → ⊥)
head_part (Plain a) k b m g e = let p : part_of a ≡ part_of b = let q : a ≡ b = cc in ap part_of q in (λ h. cc (g, h, p), λ h. cc (g, h, p))
head_part (Named a n) k b m g e = let p : part_of a ≡ part_of b = let q : a ≡ b = cc in ap part_of q in (λ h. cc (g.0, h, p), λ h. cc (g.0, h, p))
head_part (Array s) k b m g e = let p : part_of 0x1D ≡ part_of b = let q : 0x1D ≡ b = cc in ap part_of q in (λ h. cc (part-array, h, p), λ h. cc (part-array, h, p))

pub way_unique : (slot : Slot) (v w : Way) (k l : List ℕ) → IsWay slot v → IsWay slot w → spelled_way v ++ k ≡ spelled_way w ++ l → (v ≡ w) × (k ≡ l)
way_unique slot (Bare s) (Bare t) k l g h e = let u = shape_unique s t k l g h e in (ap Bare u.0, u.1)
way_unique slot (Bare s) (Lent t) k l g h e = absurd ((head_part s k 0x10 (spelled_shape t ++ l) g e).0 part-ref)
way_unique slot (Bare s) Void k l g h e = absurd ((head_part s k 0x01 l g e).1 part-void)
way_unique slot (Lent s) (Bare t) k l g h e = absurd ((head_part t l 0x10 (spelled_shape s ++ k) h (sym e)).0 part-ref)
way_unique slot (Lent s) (Lent t) k l g h e =
    let q : spelled_shape s ++ k ≡ spelled_shape t ++ l = cc in
    let u = shape_unique s t k l g.1 h.1 q in (ap Lent u.0, u.1)
way_unique slot (Lent s) Void k l g h e = absurd (cc (part-ref, part-void))
way_unique slot Void (Bare t) k l g h e = absurd ((head_part t l 0x01 k h (sym e)).1 part-void)
way_unique slot Void (Lent t) k l g h e = cc
way_unique slot Void Void k l g h e = (refl, cc)
