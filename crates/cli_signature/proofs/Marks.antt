-- Types behind BYREF and SZARRAY.
use Rattle.std.proofs.Common.{◌≡◌, ℕ, ◌+◌, ◌<◌, ◌≤◌, Bool, true, false, ◌||◌, min, List, [], ◌∷◌, ◌++◌, length, get_or, drop, find, cond, suc, Some, refl, sym, ap, subst, ◌∙◌, arith}
use Rattle.std.specs.Prelude.{◌==◌}
use Rattle.std.proofs.Math.Seq.{drop-cons}
use Rattle.std.proofs.Math.ListN.{drop_of_length-le}
use Rattle.std.proofs.lemmas.Bool.Decides.{nat_tests}
use Rattle.std.proofs.lemmas.List.{length-append, append_assoc, append-nil}
use Rattle.dc_base.specs.Spelling.{spelling}
use Rattle.cli_signature.specs.declared.element.Part.{Part}
use Rattle.cli_signature.specs.declared.element.Part.TheVariants as part
use Rattle.cli_signature.specs.declared.element.Element.{Element}
use Rattle.cli_signature.specs.declared.kind.Slot.{Slot}
use Rattle.cli_signature.specs.declared.kind.Slot.TheVariants.{Behind}
use Rattle.cli_signature.specs.declared.raw.RawTy.{RawTy}
use Rattle.cli_signature.specs.declared.raw.SigFault.{SigFault}
use Rattle.cli_signature.specs.declared.raw.SigFault.TheVariants.{Truncated, BadElement, OutOfProfile}
use Rattle.cli_signature.specs.Element.{element_types, entry_of, part_in, part_of}
use Rattle.cli_signature.specs.Grammar.{Shape, Plain, Named, Array, Way, Bare, Lent, Void, TakesRef, TakesVoid, IsWay, spelled_shape, spelled_way, IsWayWord, raw_of_shape, raw_of, token_of}
use Rattle.cli_signature.specs.Fault.{IsViable}
use Rattle.cli_signature.specs.Reading.{Begins, Stops, IsDue, IsFaultAt, ReadsWay, IsNumberWord, ReadsNumber, IsTaken, IsMarkPart}
use Rattle.cli_signature.proofs.Words.{Within, lift}
use Rattle.cli_signature.proofs.Trees.{part-array, part-ref, part-void}
use Rattle.cli_signature.proofs.Stopping.{part-char}

-- what a type is read as behind marks
abbrev pub wrapped : Bool → ℕ → RawTy → RawTy
wrapped lent arrays r = record { element = r.element; token = r.token; arrays = min (arrays + r.arrays) 255; lent = lent || r.lent }

-- behind the bytes `p` of a type in slot `s0` stands one in slot `s`
pub record Inside (s0 s : Slot) (p : List ℕ) (lent : Bool) (arrays : ℕ) : Type 0 where
  pub wraps : (x : Way) → IsWay s x → (y : Way) × IsWay s0 y × (spelled_way y ≡ p ++ spelled_way x) × (raw_of y ≡ wrapped lent arrays (raw_of x))
  pub open_ : (q : List ℕ) → Begins (IsWayWord s0) (p ++ q) → Begins (IsWayWord s) q

pub inside_within : (s0 s : Slot) (p : List ℕ) (lent : Bool) (arrays : ℕ) → Inside s0 s p lent arrays → Within (IsWayWord s) (IsWayWord s0) p
inside_within s0 s p lent arrays h =
    record {
      close = λ v w.
          let y = h.wraps w.0 w.1 in
          ([], (y.0, y.1, ap (λ (u : List ℕ). p ++ u) (append-nil v ∙ w.2) ∙ sym y.2));
      open_ = h.open_;
    }

raw_shape_at_most : (x : Shape) → (raw_of_shape x).arrays ≤ 255
raw_shape_at_most (Plain e) = omega arith
raw_shape_at_most (Named e n) = omega arith
raw_shape_at_most (Array x) = omega arith

raw_at_most : (x : Way) → (raw_of x).arrays ≤ 255
raw_at_most (Bare x) = raw_shape_at_most x
raw_at_most (Lent x) = raw_shape_at_most x
raw_at_most Void = omega arith

raw_eq : (e : ℕ) (t : Rattle.dc_base.specs.declared.names.Token.Token) (a b : ℕ) (l m : Bool) → a ≡ b → l ≡ m → ◌≡◌ {A = RawTy} (record { element = e; token = t; arrays = a; lent = l }) (record { element = e; token = t; arrays = b; lent = m })
raw_eq e t a b l m p q = cc

pub inside_none : (s : Slot) → Inside s s [] false 0
inside_none s =
    record {
      wraps = λ x m. (x, m, refl, let r = raw_of x in let low = raw_at_most x in raw_eq r.element r.token r.arrays (min (0 + r.arrays) 255) r.lent r.lent (omega arith) refl);
      open_ = λ q b. b;
    }

or_false : (b : Bool) → b ≡ b || false
or_false true = refl
or_false false = refl

-- VOID, BYREF and SZARRAY are one byte each
abbrev own_byte : Part → ℕ → Type 0
own_byte part.Void byte = byte ≡ 0x01
own_byte part.ByRef byte = byte ≡ 0x10
own_byte part.SzArray byte = byte ≡ 0x1D
own_byte _ byte = Unit {0}

abbrev all_own : List Element → Type 0
all_own [] = Unit {0}
all_own (e ∷ es) = own_byte e.part e.byte × all_own es

elements_own : all_own element_types
elements_own = (refl, (tt, (tt, (tt, (tt, (tt, (tt, (tt, (tt, (tt, (tt, (tt, (tt, (tt, (tt, (refl, (tt, (tt, (tt, (tt, (tt, (tt, (tt, (tt, (tt, (tt, (refl, (tt, (tt, (tt, (tt, (tt, tt))))))))))))))))))))))))))))))))

found_own : (e : Element) (es : List Element) (byte : ℕ) (t : Bool) → (e.byte == byte) ≡ t → own_byte e.part e.byte → own_byte (part_in (find (λ x. x.byte == byte) es)) byte → own_byte (part_in (cond t (Some e) (find (λ x. x.byte == byte) es))) byte
found_own e es byte true h own rest = let same : e.byte ≡ byte = grind (arith, nat_tests) in subst (own_byte e.part) same own
found_own e es byte false h own rest = rest

find_own : (es : List Element) (byte : ℕ) → all_own es → own_byte (part_in (find (λ x. x.byte == byte) es)) byte
find_own [] byte h = tt
find_own (e ∷ es) byte h = found_own e es byte (e.byte == byte) refl h.0 (find_own es byte h.1)

part_own : (byte : ℕ) → own_byte (part_of byte) byte
unfolding entry_of
part_own byte = find_own element_types byte elements_own

pub void_byte : (byte : ℕ) → part_of byte ≡ part.Void → byte ≡ 0x01
void_byte byte is = subst (λ (p : Part). own_byte p byte) is (part_own byte)

pub ref_byte : (byte : ℕ) → part_of byte ≡ part.ByRef → byte ≡ 0x10
ref_byte byte is = subst (λ (p : Part). own_byte p byte) is (part_own byte)

pub array_byte : (byte : ℕ) → part_of byte ≡ part.SzArray → byte ≡ 0x1D
array_byte byte is = subst (λ (p : Part). own_byte p byte) is (part_own byte)

array_wraps :
    (s0 s : Slot) (p : List ℕ) (lent : Bool) (arrays : ℕ) → Inside s0 s p lent arrays → (x : Way) → IsWay Behind x → (y : Way) × IsWay s0 y × (spelled_way y ≡ (p ++ 0x1D ∷ []) ++ spelled_way x) × (raw_of y ≡ wrapped lent (min (arrays + 1) 255) (raw_of x))
array_wraps s0 s p lent arrays h (Bare x) m =
    let y = h.wraps (Bare (Array x)) m in
    let r = raw_of_shape x in
    let counts : min (arrays + min (r.arrays + 1) 255) 255 ≡ min (min (arrays + 1) 255 + r.arrays) 255 = omega arith in
    (y.0, y.1, y.2 ∙ sym (append_assoc p (0x1D ∷ []) (spelled_shape x)), y.3 ∙ raw_eq r.element r.token (min (arrays + min (r.arrays + 1) 255) 255) (min (min (arrays + 1) 255 + r.arrays) 255) (lent || r.lent) (lent || r.lent) counts refl)
array_wraps s0 s p lent arrays h (Lent x) m = absurd m.0
array_wraps s0 s p lent arrays h Void m = absurd m

array_open_way : (s : Slot) (b : ℕ) (q more : List ℕ) (x : Way) → part_of b ≡ part.SzArray → IsWay s x → b ∷ q ≡ spelled_way x ++ more → Begins (IsWayWord Behind) q
array_open_way s b q more (Bare (Plain a)) is m e = let p : b ≡ a = cc in absurd (cc (m, is, ap part_of p))
array_open_way s b q more (Bare (Named a n)) is m e = let p : b ≡ a = cc in absurd (cc (m.0, is, ap part_of p))
array_open_way s b q more (Bare (Array x)) is m e = (spelled_shape x, more, (Bare x, m, refl), cc)
array_open_way s b q more (Lent x) is m e = let p : b ≡ 0x10 = cc in absurd (cc (part-ref, is, ap part_of p))
array_open_way s b q more Void is m e = let p : b ≡ 0x01 = cc in absurd (cc (part-void, is, ap part_of p))

-- one more SZARRAY
pub inside_array : (s0 s : Slot) (p : List ℕ) (lent : Bool) (arrays : ℕ) → Inside s0 s p lent arrays → Inside s0 Behind (p ++ 0x1D ∷ []) lent (min (arrays + 1) 255)
inside_array s0 s p lent arrays h =
    record {
      wraps = array_wraps s0 s p lent arrays h;
      open_ = λ q b.
          let g = h.open_ (0x1D ∷ q) (subst (Begins (IsWayWord s0)) (append_assoc p (0x1D ∷ []) q) b) in
          array_open_way s 0x1D q g.1 g.2.0 part-array g.2.1 (g.3 ∙ ap (λ (w : List ℕ). w ++ g.1) g.2.2);
    }

lent_same : (l m : Bool) → l || true ≡ true || m
lent_same true m = refl
lent_same false m = refl

ref_wraps :
    (s0 s : Slot) (p : List ℕ) (lent : Bool) (arrays : ℕ) → TakesRef s → Inside s0 s p lent arrays → (x : Way) → IsWay Behind x → (y : Way) × IsWay s0 y × (spelled_way y ≡ (p ++ 0x10 ∷ []) ++ spelled_way x) × (raw_of y ≡ wrapped true arrays (raw_of x))
ref_wraps s0 s p lent arrays takes h (Bare x) m =
    let y = h.wraps (Lent x) (takes, m) in
    let r = raw_of_shape x in
    (y.0, y.1, y.2 ∙ sym (append_assoc p (0x10 ∷ []) (spelled_shape x)), y.3 ∙ raw_eq r.element r.token (min (arrays + r.arrays) 255) (min (arrays + r.arrays) 255) (lent || true) (true || r.lent) refl (lent_same lent r.lent))
ref_wraps s0 s p lent arrays takes h (Lent x) m = absurd m.0
ref_wraps s0 s p lent arrays takes h Void m = absurd m

ref_open_way : (s : Slot) (b : ℕ) (q more : List ℕ) (x : Way) → part_of b ≡ part.ByRef → IsWay s x → b ∷ q ≡ spelled_way x ++ more → Begins (IsWayWord Behind) q
ref_open_way s b q more (Bare (Plain a)) is m e = let p : b ≡ a = cc in absurd (cc (m, is, ap part_of p))
ref_open_way s b q more (Bare (Named a n)) is m e = let p : b ≡ a = cc in absurd (cc (m.0, is, ap part_of p))
ref_open_way s b q more (Bare (Array x)) is m e = let p : b ≡ 0x1D = cc in absurd (cc (part-array, is, ap part_of p))
ref_open_way s b q more (Lent x) is m e = (spelled_shape x, more, (Bare x, m.1, refl), cc)
ref_open_way s b q more Void is m e = let p : b ≡ 0x01 = cc in absurd (cc (part-void, is, ap part_of p))

-- BYREF
pub inside_ref : (s0 s : Slot) (p : List ℕ) (lent : Bool) (arrays : ℕ) → TakesRef s → Inside s0 s p lent arrays → Inside s0 Behind (p ++ 0x10 ∷ []) true arrays
inside_ref s0 s p lent arrays takes h =
    record {
      wraps = ref_wraps s0 s p lent arrays takes h;
      open_ = λ q b.
          let g = h.open_ (0x10 ∷ q) (subst (Begins (IsWayWord s0)) (append_assoc p (0x10 ∷ []) q) b) in
          ref_open_way s 0x10 q g.1 g.2.0 part-ref g.2.1 (g.3 ∙ ap (λ (w : List ℕ). w ++ g.1) g.2.2);
    }

-- with a byte that isn't taken where it stands no type begins
refused : (s : Slot) (b : ℕ) → (IsTaken s (part_of b) → ⊥) → (more : List ℕ) → Begins (IsWayWord s) (b ∷ more) → ⊥
refused s b h more (word, after, (Bare (Plain a), m, w), e) = let p : a ≡ b = cc in h (subst (IsTaken s) (sym m ∙ ap part_of p) tt)
refused s b h more (word, after, (Bare (Named a n), m, w), e) = let p : a ≡ b = cc in h (subst (IsTaken s) (sym m.0 ∙ ap part_of p) tt)
refused s b h more (word, after, (Bare (Array x), m, w), e) = let p : 0x1D ≡ b = cc in h (subst (IsTaken s) (sym part-array ∙ ap part_of p) tt)
refused s b h more (word, after, (Lent x, m, w), e) = let p : 0x10 ≡ b = cc in h (subst (IsTaken s) (sym part-ref ∙ ap part_of p) m.0)
refused s b h more (word, after, (Void, m, w), e) = let p : 0x01 ≡ b = cc in h (subst (IsTaken s) (sym part-void ∙ ap part_of p) m)

pub viable_none : (s : Slot) → IsViable (IsWayWord s) []
viable_none s = (0x03 ∷ [], (Bare (Plain 0x03), part-char, refl))

pub refused_stops : (s : Slot) (at b : ℕ) (rest : List ℕ) → (IsTaken s (part_of b) → ⊥) → (st : Stops (IsWayWord s) at (b ∷ rest) at b) × (st.front ≡ [])
refused_stops s at b rest h =
    (record { front = []; rest = rest; is = refl; there = omega arith; viable = viable_none s; stuck = refused s b h }, refl)

due_none : (s : Slot) → IsDue (IsWayWord s) []
due_none s e plain = ([], (Bare (Plain e), plain, refl))

pub bad_element : (s : Slot) (at b : ℕ) (rest : List ℕ) → (IsTaken s (part_of b) → ⊥) → (part_of b ≡ part.LeftOut → ⊥) → IsFaultAt (IsWayWord s) at (b ∷ rest) (BadElement at b)
bad_element s at b rest h n = ((refused_stops s at b rest h).0, λ l. absurd (n l))

pub left_out : (s : Slot) (at b : ℕ) (rest : List ℕ) → part_of b ≡ part.LeftOut → IsFaultAt (IsWayWord s) at (b ∷ rest) (OutOfProfile at b)
unfolding refused_stops
left_out s at b rest l = ((refused_stops s at b rest (λ t. subst (IsTaken s) l t)).0, due_none s, l)

pub cut_off : (s : Slot) (at : ℕ) → IsFaultAt (IsWayWord s) at [] (Truncated at)
cut_off s at = (omega arith, (0x03 ∷ [], (Bare (Plain 0x03), part-char, refl), λ e. cc))

named_open : (s : Slot) (b : ℕ) (q more : List ℕ) (x : Way) → part_of b ≡ part.Named → IsWay s x → b ∷ q ≡ spelled_way x ++ more → Begins (IsNumberWord true) q
named_open s b q more (Bare (Plain a)) is m e = let p : b ≡ a = cc in absurd (cc (m, is, ap part_of p))
named_open s b q more (Bare (Named a n)) is m e = (spelling n, more, (n, m.1, refl), cc)
named_open s b q more (Bare (Array x)) is m e = let p : b ≡ 0x1D = cc in absurd (cc (part-array, is, ap part_of p))
named_open s b q more (Lent x) is m e = let p : b ≡ 0x10 = cc in absurd (cc (part-ref, is, ap part_of p))
named_open s b q more Void is m e = let p : b ≡ 0x01 = cc in absurd (cc (part-void, is, ap part_of p))

-- behind CLASS or VALUETYPE stands the number of a type
pub named_within : (s : Slot) (b : ℕ) → part_of b ≡ part.Named → Within (IsNumberWord true) (IsWayWord s) (b ∷ [])
named_within s b is =
    record {
      close = λ v w. ([], (Bare (Named b w.0), (is, w.1), ap (λ (x : List ℕ). b ∷ x) (append-nil v ∙ w.2)));
      open_ = λ q g. named_open s b q g.1 g.2.0 is g.2.1 (g.3 ∙ ap (λ (w : List ℕ). w ++ g.1) g.2.2);
    }

-- the byte at a place, and those behind it
pub here : (l : List ℕ) (j : ℕ) → j < length l → drop j l ≡ get_or l j 0 ∷ drop (j + 1) l
here l j h =
    let e : suc j ≡ j + 1 = omega arith in
    drop-cons l j 0 h ∙ ap (λ (n : ℕ). get_or l j 0 ∷ drop n l) e

pub read_plain : (s : Slot) (blob : List ℕ) (at : ℕ) (ty : RawTy) → at < length blob → part_of (get_or blob at 0) ≡ part.Plain → ty ≡ record { element = get_or blob at 0; token = record { 0 = 0 }; arrays = 0; lent = false } → ReadsWay s blob at ty (at + 1)
read_plain s blob at ty h is e =
    record { way = Bare (Plain (get_or blob at 0)); stands = is; is = here blob at h; within = omega arith; read = e }

pub read_void : (s : Slot) (blob : List ℕ) (at : ℕ) (ty : RawTy) → at < length blob → part_of (get_or blob at 0) ≡ part.Void → TakesVoid s → ty ≡ record { element = get_or blob at 0; token = record { 0 = 0 }; arrays = 0; lent = false } → ReadsWay s blob at ty (at + 1)
read_void s blob at ty h is takes e =
    let b = void_byte (get_or blob at 0) is in
    record {
      way = Void;
      stands = takes;
      is = here blob at h ∙ ap (λ (x : ℕ). x ∷ drop (at + 1) blob) b;
      within = omega arith;
      read = e ∙ ap (λ (x : ℕ). record { element = x; token = record { 0 = 0 }; arrays = 0; lent = false }) b;
    }

pub read_named : (s : Slot) (blob : List ℕ) (at n after : ℕ) (ty : RawTy) → at < length blob → part_of (get_or blob at 0) ≡ part.Named → ReadsNumber true blob (at + 1) n after → ty ≡ record { element = get_or blob at 0; token = record { 0 = token_of n }; arrays = 0; lent = false } → ReadsWay s blob at ty after
read_named s blob at n after ty h is r e =
    record {
      way = Bare (Named (get_or blob at 0) n);
      stands = (is, r.stands);
      is = here blob at h ∙ ap (λ (x : List ℕ). get_or blob at 0 ∷ x) r.is;
      within = r.within;
      read = e;
    }

-- the fault of the number behind an element
pub named_fault : (s : Slot) (blob : List ℕ) (at : ℕ) (fault : SigFault) → at < length blob → part_of (get_or blob at 0) ≡ part.Named → IsFaultAt (IsNumberWord true) (at + 1) (drop (at + 1) blob) fault → IsFaultAt (IsWayWord s) at (drop at blob) fault
named_fault s blob at fault h is f =
    let b = get_or blob at 0 in
    subst (λ (x : List ℕ). IsFaultAt (IsWayWord s) at x fault) (sym (here blob at h))
    (lift (IsNumberWord true) (IsWayWord s) (b ∷ []) at (drop (at + 1) blob) fault (named_within s b is) f)

pub left_out_at : (s : Slot) (blob : List ℕ) (at : ℕ) → at < length blob → part_of (get_or blob at 0) ≡ part.LeftOut → IsFaultAt (IsWayWord s) at (drop at blob) (OutOfProfile at (get_or blob at 0))
left_out_at s blob at h is =
    subst (λ (x : List ℕ). IsFaultAt (IsWayWord s) at x (OutOfProfile at (get_or blob at 0))) (sym (here blob at h)) (left_out s at (get_or blob at 0) (drop (at + 1) blob) is)

pub bad_element_at : (s : Slot) (blob : List ℕ) (at : ℕ) (p : Part) → at < length blob → part_of (get_or blob at 0) ≡ p → (IsTaken s p → ⊥) → (p ≡ part.LeftOut → ⊥) → IsFaultAt (IsWayWord s) at (drop at blob) (BadElement at (get_or blob at 0))
bad_element_at s blob at p h is refuses in_profile =
    let b = get_or blob at 0 in
    subst (λ (x : List ℕ). IsFaultAt (IsWayWord s) at x (BadElement at b)) (sym (here blob at h))
    (bad_element s at b (drop (at + 1) blob) (λ t. refuses (subst (IsTaken s) is t)) (λ l. in_profile (sym is ∙ l)))

-- what stands behind marks, with them
pub read_inside : (s0 s : Slot) (blob p : List ℕ) (at place after : ℕ) (lent : Bool) (arrays : ℕ) (ty : RawTy) → Inside s0 s p lent arrays → drop at blob ≡ p ++ drop place blob → arrays ≤ 255 → ReadsWay s blob place ty after → ty.arrays ≡ 0 → ty.lent ≡ false → ReadsWay s0 blob at (record { element = ty.element; token = ty.token; arrays = arrays; lent = lent }) after
read_inside s0 s blob p at place after lent arrays ty h split low r none bare =
    let y = h.wraps r.way r.stands in
    let counts : arrays ≡ min (arrays + ty.arrays) 255 = omega arith in
    let same : lent ≡ lent || ty.lent = or_false lent ∙ ap (λ (b : Bool). lent || b) (sym bare) in
    record {
      way = y.0;
      stands = y.1;
      is = split ∙ ap (λ (x : List ℕ). p ++ x) r.is ∙ sym (append_assoc p (spelled_way r.way) (drop after blob)) ∙ ap (λ (x : List ℕ). x ++ drop after blob) (sym y.2);
      within = r.within;
      read = raw_eq ty.element ty.token arrays (min (arrays + ty.arrays) 255) lent (lent || ty.lent) counts same ∙ ap (wrapped lent arrays) r.read ∙ sym y.3;
    }

pub fault_inside : (s0 s : Slot) (blob p : List ℕ) (at place : ℕ) (lent : Bool) (arrays : ℕ) (fault : SigFault) → Inside s0 s p lent arrays → drop at blob ≡ p ++ drop place blob → place ≡ at + length p → IsFaultAt (IsWayWord s) place (drop place blob) fault → IsFaultAt (IsWayWord s0) at (drop at blob) fault
fault_inside s0 s blob p at place lent arrays fault h split there f =
    subst (λ (x : List ℕ). IsFaultAt (IsWayWord s0) at x fault) (sym split)
    (lift (IsWayWord s) (IsWayWord s0) p at (drop place blob) fault (inside_within s0 s p lent arrays h) (subst (λ (n : ℕ). IsFaultAt (IsWayWord s) n (drop place blob) fault) there f))

pub not_taken : (s : Slot) (p : Part) → (p ≡ part.Plain → ⊥) → (p ≡ part.Void → ⊥) → (p ≡ part.Named → ⊥) → (IsMarkPart s p → ⊥) → IsTaken s p → ⊥
not_taken s part.Void plain void named mark t = void refl
not_taken s part.Plain plain void named mark t = plain refl
not_taken s part.ByRef plain void named mark t = mark t
not_taken s part.Named plain void named mark t = named refl
not_taken s part.SzArray plain void named mark t = mark tt
not_taken s part.LeftOut plain void named mark t = t
not_taken s part.Unknown plain void named mark t = t

-- one byte more before the rest
pub past : (blob p : List ℕ) (at place byte : ℕ) → drop at blob ≡ p ++ drop place blob → place < length blob → get_or blob place 0 ≡ byte → drop at blob ≡ (p ++ byte ∷ []) ++ drop (place + 1) blob
past blob p at place byte split h is =
    split ∙ ap (λ (x : List ℕ). p ++ x) (here blob place h ∙ ap (λ (x : ℕ). x ∷ drop (place + 1) blob) is) ∙ sym (append_assoc p (byte ∷ []) (drop (place + 1) blob))

pub past_place : (p : List ℕ) (at place byte : ℕ) → place ≡ at + length p → place + 1 ≡ at + length (p ++ byte ∷ [])
past_place p at place byte e = omega (arith, length-append p (byte ∷ []))

pub inside_same : (s0 s : Slot) (p : List ℕ) (l m : Bool) (a b : ℕ) → l ≡ m → a ≡ b → Inside s0 s p l a → Inside s0 s p m b
inside_same s0 s p l m a b e f h = subst (λ (x : Bool). Inside s0 s p x b) e (subst (λ (n : ℕ). Inside s0 s p l n) f h)

pub cut_off_at : (s0 s : Slot) (blob p : List ℕ) (at place : ℕ) (lent : Bool) (arrays : ℕ) → Inside s0 s p lent arrays → drop at blob ≡ p ++ drop place blob → place ≡ at + length p → length blob ≤ place → place ≤ length blob → IsFaultAt (IsWayWord s0) at (drop at blob) (Truncated (length blob))
cut_off_at s0 s blob p at place lent arrays h split there past_end within =
    let none : drop place blob ≡ [] = drop_of_length-le blob past_end in
    let last : place ≡ length blob = omega arith in
    let f = subst (λ (x : List ℕ). IsFaultAt (IsWayWord s) place x (Truncated place)) (sym none) (cut_off s place) in
    subst (λ (n : ℕ). IsFaultAt (IsWayWord s0) at (drop at blob) (Truncated n)) last (fault_inside s0 s blob p at place lent arrays (Truncated place) h split there f)
