-- The kinds of slots that an instruction takes, at a narrower frame.
use Rattle.std.proofs.Common.{◌≡◌, suc, ◌≤◌, List, [], ◌∷◌, Option, Some, None, length, get_or, slice_get, inl, inr, refl, sym, ap, ◌∙◌, arith}
use Rattle.std.proofs.lemmas.List.{get_or_default}
use Rattle.std.specs.List.{Contains}
use Rattle.dc_base.specs.declared.ty.Ty.{Ty}
use Rattle.class_rows.specs.declared.row.TypeRow.{TypeRow}
use Rattle.class_rows.specs.declared.row.MemberRow.{MemberRow}
use Rattle.cil_rows.specs.declared.row.Row.{Row}
use Rattle.cil_rows.specs.declared.row.Row.TheVariants.{Dup, Pop, Arithmetic, Bitwise, Shift, Unary, Compare, Convert, BranchIf, BranchCompare, Switch, New, NewArray, Length, LoadElement, ElementAddress, StoreElement, LoadIndirect, StoreIndirect, Cast, IsInstance, Unbox, UnboxAny}
use Rattle.cil_rows.specs.declared.row.Access.{Access}
use Rattle.cil_rows.specs.declared.row.Access.TheVariants.{Reference as ReferenceAccess, Typed}
use Rattle.verify_slots.specs.declared.slot.Slot.{Slot}
use Rattle.verify_slots.specs.Slots.{IsSubset, IsIn, AreIn}
use Rattle.verify_rules.specs.declared.setting.Setting.{Setting}
use Rattle.verify_rules.specs.declared.setting.Spot.{Spot}
use Rattle.verify_rules.specs.declared.held.Held.{Held}
use Rattle.verify_rules.specs.Look.{types_of, named_row}
use Rattle.verify_rules.specs.Slots.{Is32, IsNumber, IsReference, IsCode, AreOneSize, One, Two, Three}
use Rattle.verify_rules.specs.Puts.{FitsKind}
use Rattle.verify_rules.specs.Kinds.{IsTaken, IsSo, IsKept, IsCompared, IsConverted, IsCondition, IsBranchedOn, HasLength, IsArrayOf, AreArrays, IsAddressOf, IsMade, IsInstanceConstructor, held_access}
use Rattle.verify_narrower.specs.Narrower.{IsOnce, HasOnce, IsFrame}
use Rattle.verify_narrower.proofs.View.{View, same, truth, refs, view, lower}
use Rattle.verify_narrower.proofs.Kept.{kept_32, kept_number, kept_reference, kept_code, kept_kept, kept_size, kept_compared, kept_branched, kept_condition, kept_converted, kept_kind}

both : (x y : Ty) (t : List Ty) (first : Contains t x) (second : Contains t y) → first.0 ≡ second.0 → y ≡ x
both x y t first second there =
    sym second.2 ∙ ap (λ k. get_or t k y) (sym there) ∙ get_or_default t first.0 y x first.1 ∙ first.2

-- a set in one of at most one type has at most one
few : (s t : List Ty) → IsOnce s → IsSubset s t → length t ≤ 1 → length s ≤ 1
few [] t once sub le = omega arith
few (x ∷ []) t once sub le = omega arith
few (x ∷ y ∷ s) t once sub le =
    let first = sub x (0, omega arith, refl) in
    let second = sub y (1, omega arith, refl) in
    let one = first.1 in
    let two = second.1 in
    let there : first.0 ≡ second.0 = omega (arith, one, two, le) in
    absurd (once.0 (0, omega arith, both x y t first second there))

pub first_of : (a : Slot) (f : List Slot) → IsFrame (a ∷ f) → HasOnce a
first_of a f frame = frame a (0, omega arith, refl)

pub rest_of : (a : Slot) (f : List Slot) → IsFrame (a ∷ f) → IsFrame f
rest_of a f frame slot has = let lt = has.1 in frame slot (suc has.0, omega (arith, lt), has.2)

-- what is kept by each slot is kept by those that are taken
one_in : (P : Slot → Type 0) → ((a b : Slot) → HasOnce a → IsIn a b → P b → P a) → (f g : List Slot) → IsFrame f → AreIn f g → One P g → One P f
one_in P k [] [] frame h o = absurd o
one_in P k [] (b ∷ g) frame h o = absurd h
one_in P k (a ∷ f) [] frame h o = absurd h
one_in P k (a ∷ f) (b ∷ g) frame h o = k a b (first_of a f frame) h.0 o

two_in : (P : Slot → Slot → Type 0) → ((x a y b : Slot) → HasOnce x → HasOnce y → IsIn x a → IsIn y b → P a b → P x y) → (f g : List Slot) → IsFrame f → AreIn f g → Two P g → Two P f
two_in P k f [] frame h o = absurd o
two_in P k f (b ∷ []) frame h o = absurd o
two_in P k [] (b ∷ a ∷ g) frame h o = absurd h
two_in P k (y ∷ []) (b ∷ a ∷ g) frame h o = absurd h.1
two_in P k (y ∷ x ∷ f) (b ∷ a ∷ g) frame h o = k x a y b (first_of x f (rest_of y (x ∷ f) frame)) (first_of y (x ∷ f) frame) h.1.0 h.0 o

three_in : (P : Slot → Slot → Slot → Type 0) → ((x a y b z c : Slot) → HasOnce x → IsIn x a → IsIn y b → IsIn z c → P a b c → P x y z) → (f g : List Slot) → IsFrame f → AreIn f g → Three P g → Three P f
three_in P k f [] frame h o = absurd o
three_in P k f (c ∷ []) frame h o = absurd o
three_in P k f (c ∷ b ∷ []) frame h o = absurd o
three_in P k [] (c ∷ b ∷ a ∷ g) frame h o = absurd h
three_in P k (z ∷ []) (c ∷ b ∷ a ∷ g) frame h o = absurd h.1
three_in P k (z ∷ y ∷ []) (c ∷ b ∷ a ∷ g) frame h o = absurd h.1.1
three_in P k (z ∷ y ∷ x ∷ f) (c ∷ b ∷ a ∷ g) frame h o = k x a y b z c (first_of x f (rest_of y (x ∷ f) (rest_of z (y ∷ x ∷ f) frame))) h.1.1.0 h.1.0 h.0 o

so_more : {A : Type 0} (P Q : A → Type 0) → ((a : A) → P a → Q a) → (o : Option A) → IsSo P o → IsSo Q o
so_more P Q f None h = absurd h
so_more P Q f (Some a) h = f a h

module _ (s : Setting) where
  arrays : (access : Access) (xs t : List Ty) → IsOnce xs → IsSubset xs t → AreArrays s access t → AreArrays s access xs
  arrays access xs t once sub h = (elim h.0 [ inl is ↦ inl is | inr le ↦ inr (few xs t once sub le) ], λ array has. h.1 array (sub array has))

  array_by : (access : Access) (a b : Slot) → View a b → HasOnce a → IsArrayOf s access b → IsArrayOf s access a
  array_by access _ _ (same a) once h = h
  array_by access _ _ truth once h = absurd h
  array_by access _ _ (refs xs t m n sub mark) once h = arrays access xs t once sub h

  array_of : (access : Access) (a b : Slot) → HasOnce a → IsIn a b → IsArrayOf s access b → IsArrayOf s access a
  array_of access a b once is h = array_by access a b (view a b is) once h

  length_by : (a b : Slot) → View a b → HasOnce a → HasLength s b → HasLength s a
  length_by _ _ (same a) once h = h
  length_by _ _ truth once h = absurd h
  length_by _ _ (refs xs t m n sub mark) once h =
      (λ array has. h.0 array (sub array has), elim h.1 [ inl le ↦ inl (few xs t once sub le) | inr all ↦ inr (arrays ReferenceAccess xs t once sub all) ])

  length_of : (a b : Slot) → HasOnce a → IsIn a b → HasLength s b → HasLength s a
  length_of a b once is h = length_by a b (view a b is) once h

  address_of : (access : Access) (a b : Slot) → HasOnce a → IsIn a b → IsAddressOf s access b → IsAddressOf s access a
  address_of access a b once is = lower (IsAddressOf s access) (λ h. absurd h) (λ xs t m n sub mark h. absurd h) a b is

  stored : (held : Held) (z c : Slot) → IsIn z c → FitsKind held c → FitsKind held z
  stored held z c is h = kept_kind held z c is h

  made : (o : Option TypeRow) (f g : List Slot) → IsFrame f → AreIn f g → IsMade o g → IsMade o f
  made None f g frame h m = absurd m
  made (Some row) f g frame h (inl m) = inl m
  made (Some row) f g frame h (inr m) =
      inr (m.0, two_in (λ x y. IsReference x × IsCode y) (λ x a y b ox oy ix iy k. (kept_reference x a ix k.0, kept_code y b iy k.1)) f g frame h m.1)

module _ (s : Setting) (p : Spot) where
  -- an instruction takes the slots of each frame in one of which it takes them
  pub taken_in : (row : Row) (f g : List Slot) → IsFrame f → AreIn f g → IsTaken s p row g → IsTaken s p row f
  taken_in Dup f g frame h t = one_in IsKept (λ a b once is k. kept_kept a b is k) f g frame h t
  taken_in Pop f g frame h t = one_in IsKept (λ a b once is k. kept_kept a b is k) f g frame h t
  taken_in (Arithmetic op unsigned checked) f g frame h t = two_in AreOneSize (λ x a y b ox oy ix iy k. kept_size x a y b ix iy k) f g frame h t
  taken_in (Bitwise op) f g frame h t = two_in AreOneSize (λ x a y b ox oy ix iy k. kept_size x a y b ix iy k) f g frame h t
  taken_in (Shift op) f g frame h t = two_in (λ x y. IsNumber x × Is32 y) (λ x a y b ox oy ix iy k. (kept_number x a ix k.0, kept_32 y b iy k.1)) f g frame h t
  taken_in (Unary op) f g frame h t = one_in IsNumber (λ a b once is k. kept_number a b is k) f g frame h t
  taken_in (Compare test unsigned) f g frame h t = two_in (IsCompared s p test unsigned) (λ x a y b ox oy ix iy k. kept_compared s p test unsigned x a y b ix iy k) f g frame h t
  taken_in (Convert to unsigned checked) f g frame h t = one_in (IsConverted to unsigned checked) (λ a b once is k. kept_converted to unsigned checked a b is k) f g frame h t
  taken_in (BranchIf wanted to) f g frame h t = one_in IsCondition (λ a b once is k. kept_condition a b is k) f g frame h t
  taken_in (BranchCompare test unsigned to) f g frame h t = two_in (IsBranchedOn test) (λ x a y b ox oy ix iy k. kept_branched s p test unsigned x a y b ix iy k) f g frame h t
  taken_in (Switch targets) f g frame h t = one_in Is32 (λ a b once is k. kept_32 a b is k) f g frame h t
  taken_in (New token) f g frame h t =
      so_more (λ (row : MemberRow). IsInstanceConstructor row × IsMade (slice_get (types_of s) row.owner.0) g) (λ (row : MemberRow). IsInstanceConstructor row × IsMade (slice_get (types_of s) row.owner.0) f)
      (λ (row : MemberRow) k. (k.0, made s (slice_get (types_of s) row.owner.0) f g frame h k.1)) (named_row s token) t
  taken_in (NewArray token) f g frame h t = (t.0, one_in Is32 (λ a b once is k. kept_32 a b is k) f g frame h t.1)
  taken_in Length f g frame h t = one_in (HasLength s) (λ a b once is k. length_of s a b once is k) f g frame h t
  taken_in (LoadElement access) f g frame h t = (t.0, two_in (λ x y. IsArrayOf s access x × Is32 y) (λ x a y b ox oy ix iy k. (array_of s access x a ox ix k.0, kept_32 y b iy k.1)) f g frame h t.1)
  taken_in (ElementAddress token) f g frame h t = (t.0, two_in (λ x y. IsArrayOf s (Typed token) x × Is32 y) (λ x a y b ox oy ix iy k. (array_of s (Typed token) x a ox ix k.0, kept_32 y b iy k.1)) f g frame h t.1)
  taken_in (StoreElement access) f g frame h t =
      three_in (λ x y z. IsArrayOf s access x × Is32 y × IsSo (λ held. FitsKind held z) (held_access s access))
      (λ x a y b z c ox ix iy iz k. (array_of s access x a ox ix k.0, kept_32 y b iy k.1, so_more (λ held. FitsKind held c) (λ held. FitsKind held z) (λ held fit. stored s held z c iz fit) (held_access s access) k.2)) f g frame h t
  taken_in (LoadIndirect access) f g frame h t = (one_in (IsAddressOf s access) (λ a b once is k. address_of s access a b once is k) f g frame h t.0, t.1)
  taken_in (StoreIndirect access) f g frame h t = (two_in (λ x y. IsAddressOf s access x) (λ x a y b ox oy ix iy k. address_of s access x a ox ix k) f g frame h t.0, t.1)
  taken_in (Cast token) f g frame h t = (t.0, one_in IsReference (λ a b once is k. kept_reference a b is k) f g frame h t.1)
  taken_in (IsInstance token) f g frame h t = (t.0, one_in IsReference (λ a b once is k. kept_reference a b is k) f g frame h t.1)
  taken_in (Unbox token) f g frame h t = (t.0, one_in IsReference (λ a b once is k. kept_reference a b is k) f g frame h t.1)
  taken_in (UnboxAny token) f g frame h t = (t.0, one_in IsReference (λ a b once is k. kept_reference a b is k) f g frame h t.1)
  taken_in _ f g frame h t = t
