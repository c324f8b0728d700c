-- What an instruction leaves at a narrower frame lies in what it leaves at the wider one.
use Rattle.std.proofs.Common.{◌≡◌, ℕ, Bool, List, [], ◌∷◌, Option, Some, None, drop, map, inl, inr, refl, sym, subst, arith}
use Rattle.std.specs.Option.{option_to_list}
use Rattle.dc_base.specs.declared.ty.Ty.{Ty}
use Rattle.dc_base.specs.declared.ty.Prim_.{Prim_}
use Rattle.cil_rows.specs.declared.row.Row.{Row}
use Rattle.cil_rows.specs.declared.row.Row.TheVariants.{Dup, Leave, Arithmetic, Bitwise, Shift, Unary, LoadElement, LoadIndirect}
use Rattle.cil_rows.specs.declared.row.Access.{Access}
use Rattle.cil_rows.specs.declared.row.Access.TheVariants.{Number, Reference, Typed}
use Rattle.verify_slots.specs.declared.slot.Slot.{Slot}
use Rattle.verify_slots.specs.declared.slot.Slot.TheVariants.{Truth, Int, Refs}
use Rattle.verify_slots.specs.declared.slot.Mark.TheVariants.{Other}
use Rattle.verify_slots.specs.Slots.{IsSubset, IsIn, AreIn}
use Rattle.verify_rules.specs.declared.setting.Setting.{Setting}
use Rattle.verify_rules.specs.declared.setting.Spot.{Spot}
use Rattle.verify_rules.specs.declared.held.Held.{Held}
use Rattle.verify_rules.specs.declared.held.Held.TheVariants.{Number as HeldNumber}
use Rattle.verify_rules.specs.Look.{named_ty}
use Rattle.verify_rules.specs.Held.{element_of, number_slot}
use Rattle.verify_rules.specs.Slots.{Is32, Two}
use Rattle.verify_rules.specs.Kinds.{IsTaken, IsSo, IsSized, Accesses, AreArrays, IsArrayOf, held_named}
use Rattle.verify_rules.specs.Puts.{taken}
use Rattle.verify_rules.specs.Gap.{used}
use Rattle.verify_rules.specs.Results.{leaves, given_slots, gives_slot, left, settled, number_of, bits_of, lower_of, upper_of, array_read, element_read, number_read, upper_held, least_number, elements, place_read, slot_there}
use Rattle.verify_narrower.proofs.View.{View, same, truth, refs, view, in_append, in_map, in_drop}
use Rattle.verify_narrower.proofs.Elements.{nothing, one, least_in, elements_in}
use Rattle.verify_narrower.proofs.Gaps.{used_same}

-- both give a slot, the one in the other, or none does
pub data GivenIn : Option Slot → Option Slot → Type 0 where
  none : GivenIn None None
  some : (a b : Slot) → IsIn a b → GivenIn (Some a) (Some b)

itself : (o : Option Slot) → GivenIn o o
itself None = none
itself (Some a) = some a a (inl refl)

listed : (x y : Option Slot) → GivenIn x y → AreIn (option_to_list x) (option_to_list y)
listed _ _ none = tt
listed _ _ (some a b is) = (is, tt)

number_by : (a b : Slot) → View a b → IsIn (number_of a) (number_of b)
number_by _ _ (same a) = inl refl
number_by _ _ truth = inl refl
number_by _ _ (refs s t m n sub mark) = inl refl

number_in : (a b : Slot) → IsIn a b → IsIn (number_of a) (number_of b)
number_in a b is = number_by a b (view a b is)

bits_same : (x y b : Slot) → View y b → IsIn (bits_of x y) (bits_of x b)
bits_same x _ _ (same y) = inl refl
bits_same Truth _ _ truth = inr tt
bits_same Truth _ _ (refs s t m n sub mark) = inl refl
bits_same _ _ _ truth = inl refl
bits_same _ _ _ (refs s t m n sub mark) = inl refl

bits_truth : (y b : Slot) → IsIn (bits_of Truth y) (bits_of Int b)
bits_truth Truth b = inr tt
bits_truth _ b = inl refl

bits_by : (x a y b : Slot) → View x a → View y b → IsIn (bits_of x y) (bits_of a b)
bits_by _ _ y b (same x) upper = bits_same x y b upper
bits_by _ _ y b truth upper = bits_truth y b
bits_by _ _ y b (refs s t m n sub mark) upper = inl refl

bits_in : (x a y b : Slot) → IsIn x a → IsIn y b → IsIn (bits_of x y) (bits_of a b)
bits_in x a y b lower upper = bits_by x a y b (view x a lower) (view y b upper)

lower_in : (F : Slot → Slot → Slot) → ((x a y b : Slot) → IsIn x a → IsIn y b → IsIn (F x y) (F a b)) → (f g : List Slot) → AreIn f g → GivenIn (lower_of F f) (lower_of F g)
lower_in F each [] [] h = none
lower_in F each [] (b ∷ g) h = absurd h
lower_in F each (y ∷ f) [] h = absurd h
lower_in F each (y ∷ []) (b ∷ []) h = none
lower_in F each (y ∷ []) (b ∷ a ∷ g) h = absurd h.1
lower_in F each (y ∷ x ∷ f) (b ∷ []) h = absurd h.1
lower_in F each (y ∷ x ∷ f) (b ∷ a ∷ g) h = some (F x y) (F a b) (each x a y b h.1.0 h.0)

upper_in : (F : Slot → Option Slot) → ((x a : Slot) → IsIn x a → GivenIn (F x) (F a)) → (f g : List Slot) → AreIn f g → GivenIn (upper_of F f) (upper_of F g)
upper_in F each [] [] h = none
upper_in F each [] (b ∷ g) h = absurd h
upper_in F each (x ∷ f) [] h = absurd h
upper_in F each (x ∷ f) (b ∷ g) h = each x b h.0

place_by : (s : Setting) (a b : Slot) → View a b → GivenIn (place_read s a) (place_read s b)
place_by s _ _ (same a) = itself (place_read s a)
place_by s _ _ truth = none
place_by s _ _ (refs xs t m n sub mark) = none

settled_by : (ks : List ℕ) (a b : Slot) → View a b → IsIn (settled ks a) (settled ks b)
settled_by ks _ _ (same a) = inl refl
settled_by ks _ _ truth = inr tt
settled_by ks _ _ (refs s t m n sub mark) = inr (sub, mark)

left_in : (s : Setting) (p : Spot) (row : Row) (f g : List Slot) → AreIn f g → AreIn (left s row f) (left s row g)
left_in s p row f g h =
    subst (λ (ks : List ℕ). AreIn (left s row f) (map (settled ks) (drop (taken s row) g))) (used_same s p row f g h)
    (in_map (settled (used s row f)) (λ a b is. settled_by (used s row f) a b (view a b is)) (drop (taken s row) f) (drop (taken s row) g) (in_drop (taken s row) f g h))

-- an element that is read as a number: from null, the least of its size
module _ (s : Setting) (prim : Prim_) where
  held_so : (o : Option Held) → IsSo (IsSized prim) o → GivenIn (Some (least_number prim)) (upper_held o)
  held_so None so = absurd so
  held_so (Some (HeldNumber other)) so = some (least_number prim) (number_slot other) (least_in prim other so)
  held_so (Some _) so = absurd so

  element_so : (o : Option Ty) → IsSo (Accesses s (Number prim)) o → IsSo (IsSized prim) (held_named s o)
  element_so None so = absurd so
  element_so (Some ty) so = so

  one_more : (x array : Ty) (xs : List Ty) → IsSubset (x ∷ xs) (array ∷ []) → x ≡ array
  one_more x array xs sub = sym (one array x (sub x (0, omega arith, refl)))

  number_in_ : (xs t : List Ty) → IsSubset xs t → AreArrays s (Number prim) t → GivenIn (number_read s prim xs) (number_read s prim t)
  number_in_ [] [] sub h = itself (Some (least_number prim))
  number_in_ [] (array ∷ more) sub h = held_so (held_named s (element_of array)) (element_so (element_of array) (h.1 array (0, omega arith, refl)))
  number_in_ (x ∷ xs) [] sub h = absurd (nothing x (sub x (0, omega arith, refl)))
  number_in_ (x ∷ xs) (array ∷ []) sub h = subst (λ (y : Ty). GivenIn (upper_held (held_named s (element_of x))) (upper_held (held_named s (element_of y)))) (one_more x array xs sub) (itself (upper_held (held_named s (element_of x))))
  number_in_ (x ∷ xs) (array ∷ other ∷ more) sub h = absurd (elim h.0 [ inl is ↦ is | inr le ↦ omega (arith, le) ])

element_by : (s : Setting) (access : Access) (a b : Slot) → View a b → IsArrayOf s access b → GivenIn (element_read s access a) (element_read s access b)
element_by s access _ _ (same a) h = itself (element_read s access a)
element_by s access _ _ truth h = absurd h
element_by s (Number prim) _ _ (refs xs t m n sub mark) h = number_in_ s prim xs t sub h
element_by s Reference _ _ (refs xs t m n sub mark) h = some (Refs (elements xs) Other) (Refs (elements t) Other) (inr (elements_in xs t sub, tt))
element_by s (Typed token) _ _ (refs xs t m n sub mark) h = itself (slot_there s (named_ty s token))

array_in : (s : Setting) (access : Access) (f g : List Slot) → AreIn f g → Two (λ x y. IsArrayOf s access x × Is32 y) g → GivenIn (array_read s access f) (array_read s access g)
array_in s access f [] h k = absurd k
array_in s access f (b ∷ []) h k = absurd k
array_in s access [] (b ∷ a ∷ g) h k = absurd h
array_in s access (y ∷ []) (b ∷ a ∷ g) h k = absurd h.1
array_in s access (y ∷ x ∷ f) (b ∷ a ∷ g) h k = element_by s access x a (view x a h.1.0) k.0

module _ (s : Setting) (p : Spot) (of_this : Bool) where
  gives_in : (row : Row) (f g : List Slot) → AreIn f g → IsTaken s p row g → GivenIn (gives_slot s p of_this row f) (gives_slot s p of_this row g)
  gives_in (Arithmetic op unsigned checked) f g h t = lower_in (λ x y. number_of x) (λ x a y b ix iy. number_in x a ix) f g h
  gives_in (Bitwise op) f g h t = lower_in bits_of bits_in f g h
  gives_in (Shift op) f g h t = lower_in (λ x y. number_of x) (λ x a y b ix iy. number_in x a ix) f g h
  gives_in (Unary op) f g h t = upper_in (λ x. Some (number_of x)) (λ x a ix. some (number_of x) (number_of a) (number_in x a ix)) f g h
  gives_in (LoadElement access) f g h t = array_in s access f g h t.1
  gives_in (LoadIndirect access) f g h t = upper_in (place_read s) (λ x a ix. place_by s x a (view x a ix)) f g h
  gives_in row f g h t = itself (gives_slot s p of_this row f)

  given_in : (row : Row) (f g : List Slot) → AreIn f g → IsTaken s p row g → AreIn (given_slots s p of_this row f) (given_slots s p of_this row g)
  given_in Dup [] [] h t = tt
  given_in Dup [] (b ∷ g) h t = absurd h
  given_in Dup (a ∷ f) [] h t = absurd h
  given_in Dup (a ∷ f) (b ∷ g) h t = (h.0, (h.0, tt))
  given_in row f g h t = listed (gives_slot s p of_this row f) (gives_slot s p of_this row g) (gives_in row f g h t)

  pub leaves_in : (row : Row) (f g : List Slot) → AreIn f g → IsTaken s p row g → AreIn (leaves s p of_this row f) (leaves s p of_this row g)
  leaves_in (Leave to) f g h t = tt
  leaves_in row f g h t =
      in_append (given_slots s p of_this row f) (given_slots s p of_this row g) (left s row f) (left s row g) (given_in row f g h t) (left_in s p row f g h)
