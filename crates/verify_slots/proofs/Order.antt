-- Holding is an order of slots and of frames.
use Rattle.std.proofs.Common.{List, [], ◌∷◌, inl, inr, refl, sym, subst}
use Rattle.dc_base.specs.declared.ty.Ty.{Ty}
use Rattle.verify_slots.specs.declared.slot.Slot.{Slot}
use Rattle.verify_slots.specs.declared.slot.Slot.TheVariants.{Truth, Int, Refs}
use Rattle.verify_slots.specs.declared.slot.Mark.{Mark}
use Rattle.verify_slots.specs.declared.slot.Mark.TheVariants.{This, Fresh, Other}
use Rattle.verify_slots.specs.Slots.{IsMarkIn, IsNarrower, IsIn, AreIn, IsOrder, UnitedAreOne}

pub mark_same : (m : Mark) → IsMarkIn m m
mark_same This = refl
mark_same Fresh = refl
mark_same Other = tt

pub mark_through : (a b c : Mark) → IsMarkIn a b → IsMarkIn b c → IsMarkIn a c
mark_through a b Other p q = tt
mark_through a This This p q = p
mark_through a Fresh This p q = cc
mark_through a Other This p q = cc
mark_through a This Fresh p q = cc
mark_through a Fresh Fresh p q = p
mark_through a Other Fresh p q = cc

refs_through : (s t : List Ty) (m n : Mark) (c : Slot) → IsNarrower (Refs s m) (Refs t n) → IsNarrower (Refs t n) c → IsNarrower (Refs s m) c
refs_through s t m n (Refs u k) p q = ((λ ty h. q.0 ty (p.0 ty h)), mark_through m n k p.1 q.1)
refs_through s t m n _ p q = absurd q

narrower_through : (a b c : Slot) → IsNarrower a b → IsNarrower b c → IsNarrower a c
narrower_through Truth Int c p q = absurd q
narrower_through (Refs s m) (Refs t n) c p q = refs_through s t m n c p q
narrower_through _ _ c p q = absurd p

pub in_same : (a : Slot) → IsIn a a
in_same a = inl refl

pub in_through : (a b c : Slot) → IsIn a b → IsIn b c → IsIn a c
in_through a b c (inl e) q = subst (λ (x : Slot). IsIn x c) (sym e) q
in_through a b c (inr p) (inl e) = inr (subst (λ (x : Slot). IsNarrower a x) e p)
in_through a b c (inr p) (inr q) = inr (narrower_through a b c p q)

pub are_same : (f : List Slot) → AreIn f f
are_same [] = tt
are_same (a ∷ f) = (in_same a, are_same f)

pub are_through : (f g h : List Slot) → AreIn f g → AreIn g h → AreIn f h
are_through [] [] h p q = q
are_through [] (b ∷ g) h p q = absurd p
are_through (a ∷ f) [] h p q = absurd p
are_through (a ∷ f) (b ∷ g) [] p q = absurd q
are_through (a ∷ f) (b ∷ g) (c ∷ h) p q = (in_through a b c p.0 q.0, are_through f g h p.1 q.1)

pub slots_in_order : IsOrder IsIn
slots_in_order = record { same = in_same; through = in_through }

pub frames_in_order : IsOrder AreIn
frames_in_order = record { same = are_same; through = are_through }

pub united_are_one : UnitedAreOne
united_are_one f g h k p q = (p.least k q.left q.right, q.least h p.left p.right)
