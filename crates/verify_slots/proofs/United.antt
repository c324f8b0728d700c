-- What slots and frames unite to.
use Rattle.std.proofs.Common.{◌≡◌, ℕ, zero, suc, ◌+◌, ◌<◌, List, [], ◌∷◌, ◌++◌, length, take, get_or, inl, inr, refl, sym, ap, ◌∙◌, subst, arith}
use Rattle.std.proofs.lemmas.List.{take_more}
use Rattle.std.proofs.Math.ListN.{length-take}
use Rattle.std.specs.List.{Contains}
use Rattle.dc_base.specs.declared.ty.Ty.{Ty}
use Rattle.verify_slots.specs.declared.slot.Slot.{Slot}
use Rattle.verify_slots.specs.declared.slot.Slot.TheVariants.{Truth, Int, Long, Length, Refs, Opaque, Lent, Code}
use Rattle.verify_slots.specs.declared.slot.Mark.{Mark}
use Rattle.verify_slots.specs.declared.slot.Mark.TheVariants.{This, Fresh, Other}
use Rattle.verify_slots.specs.Slots.{IsSubset, IsMarkIn, IsNarrower, IsIn, AreIn, IsUnited, AreApart}
use Rattle.verify_slots.proofs.Order.{in_same, mark_same}

-- a number for the kind of value
abbrev sort : Slot → ℕ
sort Truth = 0
sort Int = 0
sort Long = 1
sort Length = 2
sort (Refs s m) = 3
sort (Opaque t) = 4
sort (Lent t y) = 5
sort (Code m) = 6

narrower_sort : (a b : Slot) → IsNarrower a b → sort a ≡ sort b
narrower_sort Truth Int p = refl
narrower_sort (Refs s m) (Refs t n) p = refl
narrower_sort _ _ p = absurd p

in_sort : (a b : Slot) → IsIn a b → sort a ≡ sort b
in_sort a b (inl e) = ap sort e
in_sort a b (inr p) = narrower_sort a b p

apart_by_sort : (a b : Slot) → (sort a ≡ sort b → ⊥) → AreApart IsIn a b
apart_by_sort a b off c p q = off (in_sort a c p ∙ sym (in_sort b c q))

pub truth_apart : (b : Slot) → (b ≡ Truth → ⊥) → (b ≡ Int → ⊥) → AreApart IsIn Truth b
truth_apart Truth h k = absurd (h refl)
truth_apart Int h k = absurd (k refl)
truth_apart b h k = apart_by_sort Truth b (λ e. omega (arith, e))

pub int_apart : (b : Slot) → (b ≡ Truth → ⊥) → (b ≡ Int → ⊥) → AreApart IsIn Int b
int_apart Truth h k = absurd (h refl)
int_apart Int h k = absurd (k refl)
int_apart b h k = apart_by_sort Int b (λ e. omega (arith, e))

pub long_apart : (b : Slot) → (b ≡ Long → ⊥) → AreApart IsIn Long b
long_apart Long h = absurd (h refl)
long_apart b h = apart_by_sort Long b (λ e. omega (arith, e))

pub length_apart : (b : Slot) → (b ≡ Length → ⊥) → AreApart IsIn Length b
length_apart Length h = absurd (h refl)
length_apart b h = apart_by_sort Length b (λ e. omega (arith, e))

pub united_same : (a : Slot) → IsUnited IsIn a a a
united_same a = record { left = in_same a; right = in_same a; least = λ d p q. p }

pub united_int_truth : IsUnited IsIn Int Truth Int
united_int_truth = record { left = in_same Int; right = inr tt; least = λ d p q. p }

pub united_truth_int : IsUnited IsIn Truth Int Int
united_truth_int = record { left = inr tt; right = in_same Int; least = λ d p q. q }

-- a slot that holds just itself
abbrev pub IsRigid : Slot → Type 0
IsRigid Truth = ⊥
IsRigid (Refs s m) = ⊥
IsRigid _ = Unit {0}

rigid : (a c : Slot) → IsRigid a → IsIn a c → a ≡ c
rigid Truth c r p = absurd r
rigid (Refs s m) c r p = absurd r
rigid a c r (inl e) = e
rigid a c r (inr p) = absurd p

pub rigid_apart : (a b : Slot) → IsRigid a → IsRigid b → (a ≡ b → ⊥) → AreApart IsIn a b
rigid_apart a b r s off c p q = off (rigid a c r p ∙ sym (rigid b c s q))

abbrev set_of : Slot → List Ty
set_of (Refs s m) = s
set_of _ = []

abbrev mark_of : Slot → Mark
mark_of (Refs s m) = m
mark_of _ = Other

refs_in : (s t : List Ty) (m n : Mark) → IsIn (Refs s m) (Refs t n) → IsSubset s t × IsMarkIn m n
refs_in s t m n (inl e) = ((λ ty h. subst (λ (x : List Ty). Contains x ty) (ap set_of e) h), subst (λ (x : Mark). IsMarkIn m x) (ap mark_of e) (mark_same m))
refs_in s t m n (inr p) = p

mark_least : (m n k l : Mark) → (m ≡ n → k ≡ m) → IsMarkIn m l → IsMarkIn n l → IsMarkIn k l
mark_least m n k Other own p q = tt
mark_least m n k This own p q = own (p ∙ sym q) ∙ p
mark_least m n k Fresh own p q = own (p ∙ sym q) ∙ p

module _ (s t u : List Ty) (m n k : Mark) (all : IsUnited IsSubset s t u) (own : m ≡ n → k ≡ m) where
  refs_least : (d : Slot) → IsIn (Refs s m) d → IsIn (Refs t n) d → IsIn (Refs u k) d
  refs_least (Refs v l) p q =
      let a = refs_in s v m l p in
      let b = refs_in t v n l q in
      inr (all.least v a.0 b.0, mark_least m n k l own a.1 b.1)
  refs_least d p q = absurd (omega (arith, in_sort (Refs s m) d p))

  pub united_refs : IsMarkIn m k → IsMarkIn n k → IsUnited IsIn (Refs s m) (Refs t n) (Refs u k)
  united_refs p q = record { left = inr (all.left, p); right = inr (all.right, q); least = refs_least }

length_in : (f d : List Slot) → AreIn f d → length f ≡ length d
length_in [] [] p = refl
length_in [] (e ∷ d) p = absurd p
length_in (a ∷ f) [] p = absurd p
length_in (a ∷ f) (e ∷ d) p = omega (arith, length_in f d p.1)

pub apart_by_length : (f g : List Slot) → (length f ≡ length g → ⊥) → AreApart AreIn f g
apart_by_length f g off d p q = off (length_in f d p ∙ sym (length_in g d q))

at_in : (f d : List Slot) (i : ℕ) (a b : Slot) → AreIn f d → i < length f → IsIn (get_or f i a) (get_or d i b)
at_in [] d i a b p lt = absurd (omega (arith, lt))
at_in (x ∷ f) [] i a b p lt = absurd p
at_in (x ∷ f) (e ∷ d) zero a b p lt = p.0
at_in (x ∷ f) (e ∷ d) (suc i) a b p lt = at_in f d i a b p.1 (omega (arith, lt))

pub apart_at : (f g : List Slot) (i : ℕ) (a b : Slot) → i < length f → length f ≡ length g → a ≡ get_or f i a → b ≡ get_or g i b → AreApart IsIn a b → AreApart AreIn f g
apart_at f g i a b lt long e also off d p q =
    off (get_or d i a) (subst (λ (s : Slot). IsIn s (get_or d i a)) (sym e) (at_in f d i a a p lt)) (subst (λ (s : Slot). IsIn s (get_or d i a)) (sym also) (at_in g d i b a q (omega (arith, lt, long))))

push_in : (f h : List Slot) (a c : Slot) → AreIn f h → IsIn a c → AreIn (f ++ a ∷ []) (h ++ c ∷ [])
push_in [] [] a c p q = (q, tt)
push_in [] (y ∷ h) a c p q = absurd p
push_in (x ∷ f) [] a c p q = absurd p
push_in (x ∷ f) (y ∷ h) a c p q = (p.0, push_in f h a c p.1 q)

record IsLast (f : List Slot) (a : Slot) (d : List Slot) : Type 0 where
  front : List Slot
  last : Slot
  parts : d ≡ front ++ last ∷ []
  front_in : AreIn f front
  last_in : IsIn a last

last_of : (f : List Slot) (a : Slot) (d : List Slot) → AreIn (f ++ a ∷ []) d → IsLast f a d
last_of [] a [] p = absurd p
last_of [] a (e ∷ []) p = record { front = []; last = e; parts = refl; front_in = tt; last_in = p.0 }
last_of [] a (e ∷ x ∷ d) p = absurd p.1
last_of (y ∷ f) a [] p = absurd p
last_of (y ∷ f) a (e ∷ d) p =
    let r = last_of f a d p.1 in
    record { front = e ∷ r.front; last = r.last; parts = ap (λ (xs : List Slot). e ∷ xs) r.parts; front_in = (p.0, r.front_in); last_in = r.last_in }

last_both : (g : List Slot) (b : Slot) (d : List Slot) (e : Slot) → length g ≡ length d → AreIn (g ++ b ∷ []) (d ++ e ∷ []) → AreIn g d × IsIn b e
last_both [] b [] e long p = (tt, p.0)
last_both [] b (x ∷ d) e long p = absurd (omega (arith, long))
last_both (y ∷ g) b [] e long p = absurd (omega (arith, long))
last_both (y ∷ g) b (x ∷ d) e long p = let r = last_both g b d e (omega (arith, long)) p.1 in ((p.0, r.0), r.1)

united_push : (f g h : List Slot) (a b c : Slot) → length f ≡ length g → IsUnited AreIn f g h → IsUnited IsIn a b c → IsUnited AreIn (f ++ a ∷ []) (g ++ b ∷ []) (h ++ c ∷ [])
united_push f g h a b c long u v = record {
  left = push_in f h a c u.left v.left;
  right = push_in g h b c u.right v.right;
  least = λ d p q.
      let r = last_of f a d p in
      let both = last_both g b r.front r.last (omega (arith, long, length_in f r.front r.front_in)) (subst (λ (x : List Slot). AreIn (g ++ b ∷ []) x) r.parts q) in
      subst (λ (x : List Slot). AreIn (h ++ c ∷ []) x) (sym r.parts) (push_in h r.front c r.last (u.least r.front r.front_in both.0) (v.least r.last r.last_in both.1));
}

one_more : (f : List Slot) (i : ℕ) (a : Slot) → i < length f → a ≡ get_or f i a → take (i + 1) f ≡ take i f ++ a ∷ []
one_more f i a lt e = take_more f i a lt ∙ ap (λ (s : Slot). take i f ++ s ∷ []) (sym e)

pub united_more : (f g h : List Slot) (i : ℕ) (a b c : Slot) → i < length f → length f ≡ length g → a ≡ get_or f i a → b ≡ get_or g i b → IsUnited AreIn (take i f) (take i g) h → IsUnited IsIn a b c → IsUnited AreIn (take (i + 1) f) (take (i + 1) g) (h ++ c ∷ [])
united_more f g h i a b c lt long e also u v =
    let there : i < length g = omega (arith, lt, long) in
    rw (one_more f i a lt e, one_more g i b there also) (united_push (take i f) (take i g) h a b c (omega (arith, length-take i f, length-take i g, lt, there)) u v)
