-- Kinds of slots that a narrower frame has where the wider one has them.
use Rattle.std.proofs.Common.{◌≡◌, Bool, true, List, [], ◌∷◌, inl, inr, refl, arith}
use Rattle.dc_base.specs.declared.ty.Ty.{Ty}
use Rattle.dc_base.specs.declared.ty.Prim_.{Prim_}
use Rattle.dc_base.specs.declared.ty.Prim_.TheVariants.{I8, U8}
use Rattle.cil_rows.specs.declared.row.Test.{Test}
use Rattle.cil_rows.specs.declared.row.Test.TheVariants.{Greater}
use Rattle.verify_slots.specs.declared.slot.Slot.{Slot}
use Rattle.verify_slots.specs.declared.slot.Slot.TheVariants.{Truth, Int, Refs}
use Rattle.verify_slots.specs.declared.slot.Mark.{Mark}
use Rattle.verify_slots.specs.Slots.{IsSubset, IsIn}
use Rattle.verify_rules.specs.declared.setting.Setting.{Setting}
use Rattle.verify_rules.specs.declared.setting.Spot.{Spot}
use Rattle.verify_rules.specs.declared.held.Held.{Held}
use Rattle.verify_rules.specs.declared.held.Held.TheVariants.{Number, Reference, Opaque, Address, Nothing}
use Rattle.verify_rules.specs.Slots.{Is32, Is64, IsNumber, IsLength, IsReference, IsNull, IsCode, AreOneSize, AreReferences}
use Rattle.verify_rules.specs.Puts.{FitsKind, FitsNumber}
use Rattle.verify_rules.specs.Kinds.{IsKept, IsCompared, TellsReferences, IsBranchedOn, IsCondition, IsConverted}
use Rattle.verify_narrower.proofs.View.{lower}

pub kept_32 : (a b : Slot) → IsIn a b → Is32 b → Is32 a
kept_32 = lower Is32 (λ h. tt) (λ s t m n sub mark h. absurd h)

pub kept_64 : (a b : Slot) → IsIn a b → Is64 b → Is64 a
kept_64 = lower Is64 (λ h. absurd h) (λ s t m n sub mark h. absurd h)

pub kept_number : (a b : Slot) → IsIn a b → IsNumber b → IsNumber a
kept_number = lower IsNumber (λ h. tt) (λ s t m n sub mark h. absurd h)

pub kept_length : (a b : Slot) → IsIn a b → IsLength b → IsLength a
kept_length = lower IsLength (λ h. absurd h) (λ s t m n sub mark h. absurd h)

pub kept_reference : (a b : Slot) → IsIn a b → IsReference b → IsReference a
kept_reference = lower IsReference (λ h. absurd h) (λ s t m n sub mark h. tt)

empty : (s t : List Ty) → IsSubset s t → t ≡ [] → s ≡ []
empty [] t sub e = refl
empty (x ∷ s) [] sub e = let has = sub x (0, omega arith, refl) in let lt = has.1 in absurd (omega (arith, lt))
empty (x ∷ s) (y ∷ t) sub e = cc

pub kept_null : (a b : Slot) → IsIn a b → IsNull b → IsNull a
kept_null = lower IsNull (λ h. absurd h) (λ s t m n sub mark h. empty s t sub h)

pub kept_code : (a b : Slot) → IsIn a b → IsCode b → IsCode a
kept_code = lower IsCode (λ h. absurd h) (λ s t m n sub mark h. absurd h)

pub kept_kept : (a b : Slot) → IsIn a b → IsKept b → IsKept a
kept_kept = lower IsKept (λ h. tt) (λ s t m n sub mark h. tt)

module _ (x a y b : Slot) (lower_is : IsIn x a) (upper_is : IsIn y b) where
  pub kept_size : AreOneSize a b → AreOneSize x y
  kept_size (inl h) = inl (kept_32 x a lower_is h.0, kept_32 y b upper_is h.1)
  kept_size (inr h) = inr (kept_64 x a lower_is h.0, kept_64 y b upper_is h.1)

  pub kept_references : AreReferences a b → AreReferences x y
  kept_references h = (kept_reference x a lower_is h.0, kept_reference y b upper_is h.1)

kept_told : (test : Test) (unsigned : Bool) (y b : Slot) → IsIn y b → TellsReferences test unsigned b → TellsReferences test unsigned y
kept_told Greater true y b is h = kept_null y b is h
kept_told _ _ y b is h = h

module _ (s : Setting) (p : Spot) (test : Test) (unsigned : Bool) (x a y b : Slot) (lower_is : IsIn x a) (upper_is : IsIn y b) where
  pub kept_compared : IsCompared s p test unsigned a b → IsCompared s p test unsigned x y
  kept_compared (inl h) = inl (kept_size x a y b lower_is upper_is h)
  kept_compared (inr (inl h)) = inr (inl (kept_references x a y b lower_is upper_is h.0, kept_told test unsigned y b upper_is h.1))
  kept_compared (inr (inr h)) = inr (inr (kept_length x a lower_is h.0, kept_32 y b upper_is h.1, h.2, h.3))

  pub kept_branched : IsBranchedOn test a b → IsBranchedOn test x y
  kept_branched (inl h) = inl (kept_size x a y b lower_is upper_is h)
  kept_branched (inr h) = inr (kept_references x a y b lower_is upper_is h.0, h.1)

pub kept_condition : (a b : Slot) → IsIn a b → IsCondition b → IsCondition a
kept_condition a b is (inl h) = inl (kept_number a b is h)
kept_condition a b is (inr (inl h)) = inr (inl (kept_reference a b is h))
kept_condition a b is (inr (inr h)) = inr (inr (kept_length a b is h))

pub kept_converted : (to : Prim_) (unsigned checked : Bool) (a b : Slot) → IsIn a b → IsConverted to unsigned checked b → IsConverted to unsigned checked a
kept_converted to unsigned checked a b is (inl h) = inl (kept_number a b is h)
kept_converted to unsigned checked a b is (inr h) = inr (kept_length a b is h.0, h.1)

fits_number : (prim : Prim_) → FitsNumber prim Int → FitsNumber prim Truth
fits_number I8 h = absurd h
fits_number U8 h = absurd h
fits_number _ h = tt

fits_no_number : (prim : Prim_) (t : List Ty) (n : Mark) → FitsNumber prim (Refs t n) → ⊥
fits_no_number I8 t n h = h
fits_no_number U8 t n h = h
fits_no_number _ t n h = h

kept_int : (held : Held) → FitsKind held Int → FitsKind held Truth
kept_int (Number prim) h = fits_number prim h
kept_int Reference h = absurd h
kept_int (Opaque t) h = absurd h
kept_int Address h = absurd h
kept_int Nothing h = absurd h

kept_set : (held : Held) (s t : List Ty) (m n : Mark) → FitsKind held (Refs t n) → FitsKind held (Refs s m)
kept_set (Number prim) s t m n h = absurd (fits_no_number prim t n h)
kept_set Reference s t m n h = tt
kept_set (Opaque u) s t m n h = absurd h
kept_set Address s t m n h = absurd h
kept_set Nothing s t m n h = absurd h

pub kept_kind : (held : Held) (a b : Slot) → IsIn a b → FitsKind held b → FitsKind held a
kept_kind held = lower (FitsKind held) (kept_int held) (λ s t m n sub mark h. kept_set held s t m n h)
