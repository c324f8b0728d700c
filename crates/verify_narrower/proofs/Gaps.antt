-- Addresses, gaps and borders at a narrower frame: an address lies in none but itself.
use Rattle.std.proofs.Common.{◌≡◌, ℕ, true, false, List, [], ◌∷◌, ◌++◌, take, drop, refl, sym, ap, ◌∙◌, subst}
use Rattle.std.specs.List.{Contains}
use Rattle.cil_rows.specs.declared.row.Row.{Row}
use Rattle.cil_rows.specs.declared.row.Row.TheVariants.{Dup, Function, LoadIndirect}
use Rattle.verify_slots.specs.declared.slot.Slot.{Slot}
use Rattle.verify_slots.specs.Slots.{IsIn, AreIn}
use Rattle.verify_rules.specs.declared.setting.Setting.{Setting}
use Rattle.verify_rules.specs.declared.setting.Spot.{Spot}
use Rattle.verify_rules.specs.Slots.{IsBy, IsFleeting, IsCode, One}
use Rattle.verify_rules.specs.Puts.{taken}
use Rattle.verify_rules.specs.Gap.{makers, makers_of, used, used_in, Disturbs, IsTested, HasNoGap, KeepsBorder}
use Rattle.verify_narrower.proofs.View.{View, same, truth, refs, view, raise, in_take, in_drop, over, held}

makers_by : (a b : Slot) → View a b → makers_of a ≡ makers_of b
makers_by _ _ (same a) = refl
makers_by _ _ truth = refl
makers_by _ _ (refs s t m n sub mark) = refl

-- the makers are the same
pub makers_in : (f g : List Slot) → AreIn f g → makers f ≡ makers g
makers_in [] [] h = refl
makers_in [] (b ∷ g) h = absurd h
makers_in (a ∷ f) [] h = absurd h
makers_in (a ∷ f) (b ∷ g) h = ap (λ ks. ks ++ makers f) (makers_by a b (view a b h.0)) ∙ ap (λ ks. makers_of b ++ ks) (makers_in f g h.1)

used_by : (row : Row) (x y : List Slot) → makers x ≡ makers y → used_in row x ≡ used_in row y
used_by Dup x y e = refl
used_by _ x y e = e

raise_tested : (a b : Slot) → IsIn a b → IsTested a → IsTested b
raise_tested = raise IsTested (λ h. h) (λ s t m n sub mark h. h)

raise_by : (k : ℕ) (a b : Slot) → IsIn a b → IsBy k a → IsBy k b
raise_by k = raise (IsBy k) (λ h. h) (λ s t m n sub mark h. h)

raise_fleeting : (a b : Slot) → IsIn a b → IsFleeting a → IsFleeting b
raise_fleeting = raise IsFleeting (λ h. h) (λ s t m n sub mark h. h)

raise_code : (a b : Slot) → IsIn a b → IsCode a → IsCode b
raise_code = raise IsCode (λ h. h) (λ s t m n sub mark h. h)

one_tested : (f g : List Slot) → AreIn f g → One IsTested f → One IsTested g
one_tested [] g h o = absurd o
one_tested (a ∷ f) [] h o = absurd h
one_tested (a ∷ f) (b ∷ g) h o = raise_tested a b h.0 o

module _ (s : Setting) (p : Spot) (row : Row) (f g : List Slot) (h : AreIn f g) where
  pub used_same : used s row f ≡ used s row g
  used_same = used_by row (take (taken s row) f) (take (taken s row) g) (makers_in (take (taken s row) f) (take (taken s row) g) (in_take (taken s row) f g h))

  up : (k : ℕ) → Contains (makers f) k → Contains (makers g) k
  up k has = subst (λ (ks : List ℕ). Contains ks k) (makers_in f g h) has

  used_up : (k : ℕ) → Contains (used s row f) k → Contains (used s row g) k
  used_up k has = subst (λ (ks : List ℕ). Contains ks k) used_same has

  used_down : (k : ℕ) → Contains (used s row g) k → Contains (used s row f) k
  used_down k has = subst (λ (ks : List ℕ). Contains ks k) (sym used_same) has

disturbs_up : (s : Setting) (p : Spot) (row : Row) (f g : List Slot) → AreIn f g → Disturbs s p row f → Disturbs s p row g
disturbs_up s p (LoadIndirect access) f g h d = one_tested f g h d
disturbs_up s p (Function target true) f g h d = d
disturbs_up s p (Function target false) f g h d = d
disturbs_up s p _ f g h d = d

pub gap_in : (s : Setting) (p : Spot) (row : Row) (f g : List Slot) → AreIn f g → HasNoGap s p row g → HasNoGap s p row f
gap_in s p row f g h k = record {
  quiet = λ m has none d. k.quiet m (up s p row f g h m has) (λ u. none (used_down s p row f g h m u)) (disturbs_up s p row f g h d);
  untouched = λ m has none touch reads. k.untouched m (up s p row f g h m has) (λ u. none (used_down s p row f g h m u)) touch reads;
  kept = λ m has. k.kept m (subst (λ (ks : List ℕ). Contains ks m) (makers_in (take 1 f) (take 1 g) (in_take 1 f g h)) has);
  passed = λ depth m slot at lt by. let o = over f g depth slot h at in k.passed depth m o.b o.at lt (raise_by m slot o.b o.is by);
  alone = λ j m uses left. used_down s p row f g h m (k.alone j m (used_up s p row f g h j uses)
      (subst (λ (ks : List ℕ). Contains ks m) (makers_in (drop (taken s row) f) (drop (taken s row) g) (in_drop (taken s row) f g h)) left));
}

pub border_in : (s : Setting) (p : Spot) (row : Row) (f g : List Slot) → AreIn f g → KeepsBorder s p row g → KeepsBorder s p row f
border_in s p row f g h k = record {
  at_aim = λ aim slot has is. let o = held f g slot h has in k.at_aim aim o.b o.has (raise_fleeting slot o.b o.is is);
  over_jump = λ jump slot has is.
      let o = held (drop (taken s row) f) (drop (taken s row) g) slot (in_drop (taken s row) f g h) has in
      k.over_jump jump o.b o.has (raise_fleeting slot o.b o.is is);
  taken_next = λ slot has is.
      let o = held (drop (taken s row) f) (drop (taken s row) g) slot (in_drop (taken s row) f g h) has in
      k.taken_next o.b o.has (raise_code slot o.b o.is is);
}
