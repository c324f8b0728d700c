-- A slot in a slot, and a frame in a frame.
use Rattle.std.proofs.Common.{◌≡◌, ℕ, zero, suc, List, [], ◌∷◌, ◌++◌, Some, unwrap_or, length, slice_get, take, drop, map, inl, inr, refl, ap, ◌∙◌, subst}
use Rattle.std.proofs.lemmas.Option.{slice_get-get_or, slice_get_within, get_or_from_slice_get}
use Rattle.std.specs.List.{Contains}
use Rattle.dc_base.specs.declared.ty.Ty.{Ty}
use Rattle.verify_slots.specs.declared.slot.Slot.{Slot}
use Rattle.verify_slots.specs.declared.slot.Slot.TheVariants.{Truth, Int, Refs}
use Rattle.verify_slots.specs.declared.slot.Mark.{Mark}
use Rattle.verify_slots.specs.Slots.{IsSubset, IsMarkIn, IsNarrower, IsIn, AreIn}

pub data View : Slot → Slot → Type 0 where
  same : (a : Slot) → View a a
  truth : View Truth Int
  refs : (s t : List Ty) (m n : Mark) → IsSubset s t → IsMarkIn m n → View (Refs s m) (Refs t n)

narrow_view : (a b : Slot) → IsNarrower a b → View a b
narrow_view Truth Int h = truth
narrow_view (Refs s m) (Refs t n) h = refs s t m n h.0 h.1
narrow_view _ _ h = absurd h

pub view : (a b : Slot) → IsIn a b → View a b
view a b (inl e) = subst (λ (x : Slot). View a x) e (same a)
view a b (inr h) = narrow_view a b h

-- what holds of the wider slot holds of the narrower one
lower_by : (P : Slot → Type 0) → (P Int → P Truth) → ((s t : List Ty) (m n : Mark) → IsSubset s t → IsMarkIn m n → P (Refs t n) → P (Refs s m))
    → (a b : Slot) → View a b → P b → P a
lower_by P int set _ _ (same a) h = h
lower_by P int set _ _ truth h = int h
lower_by P int set _ _ (refs s t m n sub mark) h = set s t m n sub mark h

pub lower : (P : Slot → Type 0) → (P Int → P Truth) → ((s t : List Ty) (m n : Mark) → IsSubset s t → IsMarkIn m n → P (Refs t n) → P (Refs s m))
    → (a b : Slot) → IsIn a b → P b → P a
lower P int set a b in_ h = lower_by P int set a b (view a b in_) h

-- what holds of the narrower slot holds of the wider one
raise_by : (P : Slot → Type 0) → (P Truth → P Int) → ((s t : List Ty) (m n : Mark) → IsSubset s t → IsMarkIn m n → P (Refs s m) → P (Refs t n))
    → (a b : Slot) → View a b → P a → P b
raise_by P int set _ _ (same a) h = h
raise_by P int set _ _ truth h = int h
raise_by P int set _ _ (refs s t m n sub mark) h = set s t m n sub mark h

pub raise : (P : Slot → Type 0) → (P Truth → P Int) → ((s t : List Ty) (m n : Mark) → IsSubset s t → IsMarkIn m n → P (Refs s m) → P (Refs t n))
    → (a b : Slot) → IsIn a b → P a → P b
raise P int set a b in_ h = raise_by P int set a b (view a b in_) h

pub in_itself : (f : List Slot) → AreIn f f
in_itself [] = tt
in_itself (a ∷ f) = (inl refl, in_itself f)

pub in_length : (f g : List Slot) → AreIn f g → length f ≡ length g
in_length [] [] h = refl
in_length [] (b ∷ g) h = absurd h
in_length (a ∷ f) [] h = absurd h
in_length (a ∷ f) (b ∷ g) h = ap suc (in_length f g h.1)

pub in_nothing : (f g : List Slot) → AreIn f g → g ≡ [] → f ≡ []
in_nothing [] g h e = refl
in_nothing (a ∷ f) [] h e = absurd h
in_nothing (a ∷ f) (b ∷ g) h e = cc

pub in_drop : (n : ℕ) (f g : List Slot) → AreIn f g → AreIn (drop n f) (drop n g)
in_drop zero f g h = h
in_drop (suc n) [] [] h = tt
in_drop (suc n) [] (b ∷ g) h = absurd h
in_drop (suc n) (a ∷ f) [] h = absurd h
in_drop (suc n) (a ∷ f) (b ∷ g) h = in_drop n f g h.1

pub in_take : (n : ℕ) (f g : List Slot) → AreIn f g → AreIn (take n f) (take n g)
in_take zero f g h = tt
in_take (suc n) [] [] h = tt
in_take (suc n) [] (b ∷ g) h = absurd h
in_take (suc n) (a ∷ f) [] h = absurd h
in_take (suc n) (a ∷ f) (b ∷ g) h = (h.0, in_take n f g h.1)

pub in_append : (f g x y : List Slot) → AreIn f g → AreIn x y → AreIn (f ++ x) (g ++ y)
in_append [] [] x y h k = k
in_append [] (b ∷ g) x y h k = absurd h
in_append (a ∷ f) [] x y h k = absurd h
in_append (a ∷ f) (b ∷ g) x y h k = (h.0, in_append f g x y h.1 k)

pub in_map : (F : Slot → Slot) → ((a b : Slot) → IsIn a b → IsIn (F a) (F b)) → (f g : List Slot) → AreIn f g → AreIn (map F f) (map F g)
in_map F one [] [] h = tt
in_map F one [] (b ∷ g) h = absurd h
in_map F one (a ∷ f) [] h = absurd h
in_map F one (a ∷ f) (b ∷ g) h = (one a b h.0, in_map F one f g h.1)

inside : (a b : Slot) → Some a ≡ Some b → a ≡ b
inside a b h = ap (λ o. unwrap_or o a) h

-- the slot of the wider frame at a place where the narrower one has one
pub record Over (g : List Slot) (k : ℕ) (a : Slot) : Type 0 where
  pub b : Slot
  pub at : slice_get g k ≡ Some b
  pub is : IsIn a b

pub over : (f g : List Slot) (k : ℕ) (a : Slot) → AreIn f g → slice_get f k ≡ Some a → Over g k a
over [] g k a h at = cc
over (x ∷ f) [] k a h at = absurd h
over (x ∷ f) (b ∷ g) zero a h at = record { b = b; at = refl; is = subst (λ (y : Slot). IsIn y b) (inside x a at) h.0 }
over (x ∷ f) (b ∷ g) (suc k) a h at = let o = over f g k a h.1 at in record { b = o.b; at = o.at; is = o.is }

-- the slot of the narrower frame where the wider one has one
pub record Under (f : List Slot) (k : ℕ) (b : Slot) : Type 0 where
  pub a : Slot
  pub at : slice_get f k ≡ Some a
  pub is : IsIn a b

pub under : (f g : List Slot) (k : ℕ) (b : Slot) → AreIn f g → slice_get g k ≡ Some b → Under f k b
under f [] k b h at = cc
under [] (y ∷ g) k b h at = absurd h
under (a ∷ f) (y ∷ g) zero b h at = record { a = a; at = refl; is = subst (λ (x : Slot). IsIn a x) (inside y b at) h.0 }
under (a ∷ f) (y ∷ g) (suc k) b h at = let o = under f g k b h.1 at in record { a = o.a; at = o.at; is = o.is }

-- each slot of the narrower frame lies in one of the wider
pub record Held (g : List Slot) (a : Slot) : Type 0 where
  pub b : Slot
  pub has : Contains g b
  pub is : IsIn a b

pub contains_at : {A : Type 0} (xs : List A) (k : ℕ) (x : A) → slice_get xs k ≡ Some x → Contains xs x
contains_at xs k x at = (k, slice_get_within xs k x at, get_or_from_slice_get xs k x x at)

pub at_contains : {A : Type 0} (xs : List A) (x : A) → (has : Contains xs x) → slice_get xs has.0 ≡ Some x
at_contains xs x has = slice_get-get_or xs has.0 x has.1 ∙ ap Some has.2

pub held : (f g : List Slot) (a : Slot) → AreIn f g → Contains f a → Held g a
held f g a h has =
    let o = over f g has.0 a h (at_contains f a has) in
    record { b = o.b; has = contains_at g has.0 o.b o.at; is = o.is }
