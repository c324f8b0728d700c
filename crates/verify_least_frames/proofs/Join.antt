-- Slots and frames that one holds: whether the one holds the other, what they unite to, and how far each is from it.
use Rattle.std.proofs.Common.{◌⊎◌, inl, inr, ℕ, ◌+◌, ◌<◌, ◌≤◌, List, [], ◌∷◌, length, refl, sym, ◌∙◌, subst, arith}
use Rattle.std.specs.List.{Contains}
use Rattle.dc_base.specs.declared.ty.Ty.{Ty}
use Rattle.verify_slots.specs.declared.slot.Slot.{Slot}
use Rattle.verify_slots.specs.declared.slot.Slot.TheVariants.{Truth, Int, Refs}
use Rattle.verify_slots.specs.declared.slot.Mark.{Mark}
use Rattle.verify_slots.specs.declared.slot.Mark.TheVariants.{This, Fresh, Other}
use Rattle.verify_slots.specs.Slots.{IsSubset, IsMarkIn, IsNarrower, IsIn, AreIn, IsUnited}
use Rattle.verify_slots.proofs.Order.{mark_same, in_same, are_through}
use Rattle.verify_narrower.specs.Narrower.{HasOnce, IsFrame}
use Rattle.verify_narrower.proofs.Taken.{first_of, rest_of}
use Rattle.verify_least_frames.proofs.Sets.{either, subset_or, union_of, lacks, lacks_bound, lacks_less, lacks_fewer}

-- two slots in one: they are alike, a truth and an integer, or both references
close : (P : Slot → Slot → Slot → Type 0) → ((a h : Slot) → P a a h) → P Truth Int Int → P Int Truth Int
    → ((s t u : List Ty) (m n k : Mark) → IsSubset s u → IsMarkIn m k → IsSubset t u → IsMarkIn n k → P (Refs s m) (Refs t n) (Refs u k))
    → (a b h : Slot) → IsIn a h → IsIn b h → P a b h
close P alike lower upper refs a b h (inl e) (inl f) = subst (λ (x : Slot). P a x h) (e ∙ sym f) (alike a h)
close P alike lower upper refs Truth b Int (inr n) (inl f) = subst (λ (x : Slot). P Truth x Int) (sym f) lower
close P alike lower upper refs (Refs s m) b (Refs u k) (inr n) (inl f) = subst (λ (x : Slot). P (Refs s m) x (Refs u k)) (sym f) (refs s u u m k k n.0 n.1 (λ ty has. has) (mark_same k))
close P alike lower upper refs a b h (inr n) (inl f) = absurd n
close P alike lower upper refs a Truth Int (inl e) (inr n) = subst (λ (x : Slot). P x Truth Int) (sym e) upper
close P alike lower upper refs a (Refs t n) (Refs u k) (inl e) (inr o) = subst (λ (x : Slot). P x (Refs t n) (Refs u k)) (sym e) (refs u t u k n k (λ ty has. has) (mark_same k) o.0 o.1)
close P alike lower upper refs a b h (inl e) (inr n) = absurd n
close P alike lower upper refs Truth Truth Int (inr n) (inr o) = alike Truth Int
close P alike lower upper refs (Refs s m) (Refs t n) (Refs u k) (inr x) (inr y) = refs s t u m n k x.0 x.1 y.0 y.1
close P alike lower upper refs Truth b Int (inr x) (inr y) = absurd y
close P alike lower upper refs (Refs s m) b (Refs u k) (inr x) (inr y) = absurd y
close P alike lower upper refs a b h (inr x) (inr y) = absurd x

-- what holds references has them
refs_in : (s : List Ty) (m : Mark) (d : Slot) → IsIn (Refs s m) d → IsNarrower (Refs s m) d
refs_in s m d (inl e) = subst (λ (x : Slot). IsNarrower (Refs s m) x) e ((λ ty has. has), mark_same m)
refs_in s m d (inr n) = n

int_in : IsIn Int Truth → ⊥
int_in (inl e) = cc
int_in (inr n) = n

mark_or : (m n : Mark) → IsMarkIn m n ⊎ (IsMarkIn m n → ⊥)
mark_or m Other = inl tt
mark_or This This = inl refl
mark_or Fresh This = inr (λ e. cc)
mark_or Other This = inr (λ e. cc)
mark_or Fresh Fresh = inl refl
mark_or This Fresh = inr (λ e. cc)
mark_or Other Fresh = inr (λ e. cc)

Decided : Slot → Slot → Slot → Type 0
Decided a b h = IsIn a b ⊎ (IsIn a b → ⊥)

refs_or : (s t : List Ty) (m n : Mark) → IsIn (Refs s m) (Refs t n) ⊎ (IsIn (Refs s m) (Refs t n) → ⊥)
refs_or s t m n =
    elim (subset_or s t) [
      | inr off ↦ inr (λ i. off.2 ((refs_in s m (Refs t n) i).0 off.0 off.1))
      | inl sub ↦ elim (mark_or m n) [
        | inl mark ↦ inl (inr (sub, mark))
        | inr no_ ↦ inr (λ i. no_ (refs_in s m (Refs t n) i).1)
      ]
    ]

slot_or : (a b h : Slot) → IsIn a h → IsIn b h → IsIn a b ⊎ (IsIn a b → ⊥)
slot_or = close (λ a b h. IsIn a b ⊎ (IsIn a b → ⊥)) (λ a h. inl (in_same a)) (inl (inr tt)) (inr int_in) (λ s t u m n k a b c d. refs_or s t m n)

pub frame_or : (f g h : List Slot) → AreIn f h → AreIn g h → AreIn f g ⊎ (AreIn f g → ⊥)
frame_or [] [] [] p q = inl tt
frame_or (a ∷ f) (b ∷ g) (c ∷ h) p q =
    elim (slot_or a b c p.0 q.0) [
      | inr off ↦ inr (λ i. off i.0)
      | inl one ↦ elim (frame_or f g h p.1 q.1) [ inl rest ↦ inl (one, rest) | inr off ↦ inr (λ i. off i.1) ]
    ]
frame_or [] (b ∷ g) [] p q = absurd q
frame_or [] g (c ∷ h) p q = absurd p
frame_or (a ∷ f) g [] p q = absurd p
frame_or (a ∷ f) [] (c ∷ h) p q = absurd q

-- the least mark that holds two
mark_join : (m n : Mark) → (k : Mark) × IsMarkIn m k × IsMarkIn n k × ((l : Mark) → IsMarkIn m l → IsMarkIn n l → IsMarkIn k l)
mark_join This This = (This, refl, refl, λ l p q. p)
mark_join Fresh Fresh = (Fresh, refl, refl, λ l p q. p)
mark_join Other n = (Other, tt, other_holds n, λ l p q. p)
  where
    other_holds : (n : Mark) → IsMarkIn n Other
    other_holds n = tt
mark_join This Fresh = (Other, tt, tt, apart)
  where
    apart : (l : Mark) → IsMarkIn This l → IsMarkIn Fresh l → IsMarkIn Other l
    apart Other p q = tt
    apart This p q = cc
    apart Fresh p q = cc
mark_join This Other = (Other, tt, tt, λ l p q. q)
mark_join Fresh This = (Other, tt, tt, apart)
  where
    apart : (l : Mark) → IsMarkIn Fresh l → IsMarkIn This l → IsMarkIn Other l
    apart Other p q = tt
    apart This p q = cc
    apart Fresh p q = cc
mark_join Fresh Other = (Other, tt, tt, λ l p q. q)

record Joined (a b : Slot) : Type 0 where
  slot : Slot
  once : HasOnce a → HasOnce b → HasOnce slot
  united : IsUnited IsIn a b slot

refs_least : (s t v : List Ty) (m n k : Mark) (least : (z : Ty) → Contains v z → Contains s z ⊎ Contains t z) (marks : (l : Mark) → IsMarkIn m l → IsMarkIn n l → IsMarkIn k l) → (d : Slot) → IsNarrower (Refs s m) d → IsNarrower (Refs t n) d → IsNarrower (Refs v k) d
refs_least s t v m n k least marks (Refs w l) p q = ((λ ty has. elim (least ty has) [ inl a ↦ p.0 ty a | inr b ↦ q.0 ty b ]), marks l p.1 q.1)
refs_least s t v m n k least marks _ p q = absurd p

slot_join : (a b h : Slot) → IsIn a h → IsIn b h → Joined a b
slot_join =
    close (λ a b h. Joined a b)
    (λ a h. record { slot = a; once = λ p q. p; united = record { left = in_same a; right = in_same a; least = λ d p q. p } })
    (record { slot = Int; once = λ p q. tt; united = record { left = inr tt; right = in_same Int; least = λ d p q. q } })
    (record { slot = Int; once = λ p q. tt; united = record { left = in_same Int; right = inr tt; least = λ d p q. p } })
    (λ s t u m n k a b c d.
    let union = union_of s t in
    let is = union.1 in
    let mark = mark_join m n in
    record {
      slot = Refs union.0 mark.0;
      once = λ p q. is.once q;
      united = record {
        left = inr (is.left, mark.1);
        right = inr (is.right, mark.2);
        least = λ x p q. inr (refs_least s t union.0 m n mark.0 is.least mark.3 x (refs_in s m x p) (refs_in t n x q));
      };
    })

cons_frame : (a : Slot) (f : List Slot) → HasOnce a → IsFrame f → IsFrame (a ∷ f)
cons_frame a f once frame slot has = elim (either a slot f has) [ inl e ↦ subst HasOnce e once | inr rest ↦ frame slot rest ]

frame_least : (a b x : Slot) (f g u : List Slot) → IsUnited IsIn a b x → IsUnited AreIn f g u → (d : List Slot) → AreIn (a ∷ f) d → AreIn (b ∷ g) d → AreIn (x ∷ u) d
frame_least a b x f g u one rest [] p q = absurd p
frame_least a b x f g u one rest (c ∷ d) p q = (one.least c p.0 q.0, rest.least d p.1 q.1)

pub frame_join : (f g h : List Slot) → IsFrame f → IsFrame g → AreIn f h → AreIn g h → (u : List Slot) × IsFrame u × IsUnited AreIn f g u
frame_join [] [] [] ff fg p q = ([], ff, record { left = tt; right = tt; least = λ d x y. x })
frame_join (a ∷ f) (b ∷ g) (c ∷ h) ff fg p q =
    let one = slot_join a b c p.0 q.0 in
    let rest = frame_join f g h (rest_of a f ff) (rest_of b g fg) p.1 q.1 in
    let is = rest.2 in
    let united = one.united in (
      one.slot ∷ rest.0,
      cons_frame one.slot rest.0 (one.once (first_of a f ff) (first_of b g fg)) rest.1,
      record {
        left = (united.left, is.left);
        right = (united.right, is.right);
        least = frame_least a b one.slot f g rest.0 united is;
      },
    )
frame_join [] (b ∷ g) [] ff fg p q = absurd q
frame_join [] g (c ∷ h) ff fg p q = absurd p
frame_join (a ∷ f) g [] ff fg p q = absurd p
frame_join (a ∷ f) [] (c ∷ h) ff fg p q = absurd q

-- how far a slot is from one that holds it
far_mark : Mark → ℕ
far_mark Other = 0
far_mark This = 1
far_mark Fresh = 1

far : Slot → Slot → ℕ
far Int Truth = 1
far (Refs u k) (Refs s m) = lacks u s + far_mark m
far h a = 0

top_slot : Slot → ℕ
top_slot Int = 1
top_slot (Refs u k) = length u + 1
top_slot h = 0

mark_bound : (m : Mark) → far_mark m ≤ 1
unfolding far_mark
mark_bound Other = omega arith
mark_bound This = omega arith
mark_bound Fresh = omega arith

marks_less : (m n : Mark) → IsMarkIn m n → far_mark n ≤ far_mark m
unfolding far_mark
marks_less m Other is = omega arith
marks_less This This is = omega arith
marks_less Fresh This is = omega arith
marks_less Other This is = cc
marks_less This Fresh is = omega arith
marks_less Fresh Fresh is = omega arith
marks_less Other Fresh is = cc

marks_fewer : (m n : Mark) → IsMarkIn m n → (IsMarkIn n m → ⊥) → far_mark n < far_mark m
unfolding far_mark
marks_fewer Other n is off = absurd (off tt)
marks_fewer This Other is off = omega arith
marks_fewer Fresh Other is off = omega arith
marks_fewer This This is off = absurd (off refl)
marks_fewer Fresh This is off = absurd (off (sym is))
marks_fewer This Fresh is off = absurd (off (sym is))
marks_fewer Fresh Fresh is off = absurd (off refl)

far_bound : (h a : Slot) → far h a ≤ top_slot h
unfolding far top_slot
far_bound Int Truth = omega arith
far_bound (Refs u k) (Refs s m) = let one = lacks_bound u s in let two = mark_bound m in omega (arith, one, two)
far_bound _ _ = omega arith

far_less : (a b h : Slot) → IsIn a h → IsIn b h → IsIn a b → far h b ≤ far h a
unfolding far
far_less =
    close (λ a b h. IsIn a b → far h b ≤ far h a) (λ a h is. omega arith) (λ is. omega arith) (λ is. absurd (int_in is))
    (λ s t u m n k a b c d is.
    let r = refs_in s m (Refs t n) is in
    let one = lacks_less u s t r.0 in
    let two = marks_less m n r.1 in
    omega (arith, one, two))

far_fewer : (a b h : Slot) → IsIn a h → IsIn b h → IsIn a b → (IsIn b a → ⊥) → far h b < far h a
unfolding far
far_fewer =
    close (λ a b h. IsIn a b → (IsIn b a → ⊥) → far h b < far h a) (λ a h is off. absurd (off (in_same a))) (λ is off. omega arith) (λ is off. absurd (int_in is))
    (λ s t u m n k a b c d is off.
    let r = refs_in s m (Refs t n) is in
    elim (subset_or t s) [
      | inr more ↦
          let one = lacks_fewer u s t r.0 more.0 (c more.0 more.1) more.1 more.2 in
          let two = marks_less m n r.1 in
          omega (arith, one, two)
      | inl back ↦
          let one = lacks_less u s t r.0 in
          let two = marks_fewer m n r.1 (λ mark. off (inr (back, mark))) in
          omega (arith, one, two)
    ])

pub height : List Slot → List Slot → ℕ
height [] f = 0
height (c ∷ h) [] = 0
height (c ∷ h) (a ∷ f) = far c a + height h f

pub top : List Slot → ℕ
top [] = 1
top (c ∷ h) = top_slot c + top h

pub under : (h f : List Slot) → AreIn f h → height h f < top h
unfolding height top
under [] f is = omega arith
under (c ∷ h) [] is = absurd is
under (c ∷ h) (a ∷ f) is = let one = far_bound c a in let rest = under h f is.1 in omega (arith, one, rest)

height_less : (f g h : List Slot) → AreIn f h → AreIn g h → AreIn f g → height h g ≤ height h f
unfolding height
height_less f g [] p q is = omega arith
height_less (a ∷ f) (b ∷ g) (c ∷ h) p q is = let one = far_less a b c p.0 q.0 is.0 in let rest = height_less f g h p.1 q.1 is.1 in omega (arith, one, rest)
height_less [] g (c ∷ h) p q is = absurd p
height_less (a ∷ f) [] (c ∷ h) p q is = absurd q

height_fewer : (f g h : List Slot) → AreIn f h → AreIn g h → AreIn f g → (AreIn g f → ⊥) → height h g < height h f
unfolding height
height_fewer [] [] [] p q is off = absurd (off tt)
height_fewer (a ∷ f) (b ∷ g) (c ∷ h) p q is off =
    elim (slot_or b a c q.0 p.0) [
      | inr no_ ↦
          let one = far_fewer a b c p.0 q.0 is.0 no_ in
          let rest = height_less f g h p.1 q.1 is.1 in
          omega (arith, one, rest)
      | inl back ↦
          let one = far_less a b c p.0 q.0 is.0 in
          let rest = height_fewer f g h p.1 q.1 is.1 (λ i. off (back, i)) in
          omega (arith, one, rest)
    ]
height_fewer [] (b ∷ g) [] p q is off = absurd q
height_fewer [] g (c ∷ h) p q is off = absurd p
height_fewer (a ∷ f) g [] p q is off = absurd p
height_fewer (a ∷ f) [] (c ∷ h) p q is off = absurd q

pub falls : (h f u : List Slot) → AreIn f u → (AreIn u f → ⊥) → AreIn u h → height h u < height h f
falls h f u is off held = height_fewer f u h (are_through f u h is held) held is off
