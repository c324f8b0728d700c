-- What is read from arrays of a narrower set.
use Rattle.std.proofs.Common.{◌≡◌, ℕ, zero, suc, ◌<◌, Bool, true, false, List, [], ◌∷◌, ◌++◌, Option, Some, None, unwrap_or, inl, inr, refl, sym, ap, ◌∙◌, subst, arith}
use Rattle.std.proofs.lemmas.List.Elements.{Contains-push, Contains-push_cases, Contains-append_left, Contains-append_right, Contains-append_cases}
use Rattle.std.specs.List.{Contains}
use Rattle.std.specs.Option.{option_to_list}
use Rattle.dc_base.specs.declared.ty.Ty.{Ty}
use Rattle.dc_base.specs.declared.ty.Core.{Core}
use Rattle.dc_base.specs.declared.ty.Prim_.{Prim_}
use Rattle.dc_base.specs.declared.ty.Prim_.TheVariants.{Bool as BoolPrim, Char, I1, U1, I2, U2, I4, U4, I8, U8}
use Rattle.verify_slots.specs.declared.slot.Slot.TheVariants.{Truth, Int, Long}
use Rattle.verify_slots.specs.Slots.{IsSubset, IsIn}
use Rattle.verify_rules.specs.Held.{element_of, number_slot, size_of}
use Rattle.verify_rules.specs.Results.{elements, least_number}
use Rattle.verify_narrower.specs.Narrower.{IsOnce}

pub nothing : {A : Type 0} (x : A) → Contains [] x → ⊥
nothing x has = let lt = has.1 in omega (arith, lt)

-- an array of these whose elements are of this type
record IsArrayOver (set : List Ty) (ty : Ty) : Type 0 where
  array : Ty
  has : Contains set array
  is : element_of array ≡ Some ty

pub one : (t ty : Ty) → Contains (t ∷ []) ty → t ≡ ty
one t ty has = elim (Contains-push_cases [] t ty has) [ inl none ↦ absurd (nothing ty none) | inr e ↦ e ]

sole : (t : Ty) → Contains (t ∷ []) t
sole t = Contains-push [] t

listed_has : (o : Option Ty) (ty : Ty) → Contains (option_to_list o) ty → o ≡ Some ty
listed_has None ty has = absurd (nothing ty has)
listed_has (Some t) ty has = ap Some (one t ty has)

has_listed : (o : Option Ty) (ty : Ty) → o ≡ Some ty → Contains (option_to_list o) ty
has_listed o ty e = subst (λ (q : Option Ty). Contains (option_to_list q) ty) (sym e) (sole ty)

elements_has : (set : List Ty) (ty : Ty) → Contains (elements set) ty → IsArrayOver set ty
elements_has [] ty has = absurd (nothing ty has)
elements_has (a ∷ more) ty has = elim (Contains-append_cases (option_to_list (element_of a)) (elements more) ty has) [
  | inl here ↦ record { array = a; has = Contains-append_left (a ∷ []) more a (sole a); is = listed_has (element_of a) ty here }
  | inr there ↦ let r = elements_has more ty there in record { array = r.array; has = Contains-append_right (a ∷ []) more r.array r.has; is = r.is }
]

has_elements : (set : List Ty) (array ty : Ty) → Contains set array → element_of array ≡ Some ty → Contains (elements set) ty
has_elements [] array ty has e = absurd (nothing array has)
has_elements (a ∷ more) array ty has e = elim (Contains-append_cases (a ∷ []) more array has) [
  | inl here ↦ Contains-append_left (option_to_list (element_of a)) (elements more) ty (has_listed (element_of a) ty (ap element_of (one a array here) ∙ e))
  | inr there ↦ Contains-append_right (option_to_list (element_of a)) (elements more) ty (has_elements more array ty there e)
]

pub elements_in : (xs t : List Ty) → IsSubset xs t → IsSubset (elements xs) (elements t)
elements_in xs t sub = λ ty has. let r = elements_has xs ty has in has_elements t r.array ty (sub r.array r.has) r.is

inside : (a b : Ty) → Some a ≡ Some b → a ≡ b
inside a b h = ap (λ o. unwrap_or o a) h

-- the array over a type
abbrev over : Ty → Ty
over ty = record { core = ty.core; arrays = suc ty.arrays; lent = false }

over_by : (core : Core) (n : ℕ) (lent : Bool) (ty : Ty) → element_of (record { core = core; arrays = n; lent = lent }) ≡ Some ty → record { core = core; arrays = n; lent = lent } ≡ over ty
over_by core n true ty e = cc
over_by core zero false ty e = cc
over_by core (suc n) false ty e = ap over (inside (record { core = core; arrays = n; lent = false }) ty e)

is_over : (a ty : Ty) → element_of a ≡ Some ty → a ≡ over ty
is_over a ty e = over_by a.core a.arrays a.lent ty e

once_with : (a : Ty) (more : List Ty) (o : Option Ty) → element_of a ≡ o → (Contains more a → ⊥) → IsOnce (elements more) → IsOnce (option_to_list o ++ elements more)
once_with a more None e apart once = once
once_with a more (Some ty) e apart once =
    ((λ has. let r = elements_has more ty has in apart (subst (λ (x : Ty). Contains more x) (is_over r.array ty r.is ∙ sym (is_over a ty e)) r.has)), once)

pub once_elements : (set : List Ty) → IsOnce set → IsOnce (elements set)
once_elements [] once = tt
once_elements (a ∷ more) once = once_with a more (element_of a) refl once.0 (once_elements more once.1)

least_1 : (other : Prim_) → 1 ≡ size_of other → IsIn Truth (number_slot other)
least_1 BoolPrim e = inl refl
least_1 I1 e = inr tt
least_1 U1 e = inr tt
least_1 _ e = absurd (omega (arith, e))

least_some : (other : Prim_) (n : ℕ) → 1 < n → n < 8 → n ≡ size_of other → IsIn Int (number_slot other)
least_some BoolPrim n low high e = absurd (omega (arith, low, e))
least_some I8 n low high e = absurd (omega (arith, high, e))
least_some U8 n low high e = absurd (omega (arith, high, e))
least_some _ n low high e = inl refl

least_8 : (other : Prim_) → 8 ≡ size_of other → IsIn Long (number_slot other)
least_8 I8 e = inl refl
least_8 U8 e = inl refl
least_8 _ e = absurd (omega (arith, e))

pub least_in : (prim other : Prim_) → size_of prim ≡ size_of other → IsIn (least_number prim) (number_slot other)
least_in BoolPrim other e = least_1 other e
least_in I1 other e = least_1 other e
least_in U1 other e = least_1 other e
least_in Char other e = least_some other 2 (omega arith) (omega arith) e
least_in I2 other e = least_some other 2 (omega arith) (omega arith) e
least_in U2 other e = least_some other 2 (omega arith) (omega arith) e
least_in I4 other e = least_some other 4 (omega arith) (omega arith) e
least_in U4 other e = least_some other 4 (omega arith) (omega arith) e
least_in I8 other e = least_8 other e
least_in U8 other e = least_8 other e
