-- What is put fits at a narrower frame.
use Rattle.std.proofs.Common.{◌≡◌, ◌-◌, List, Some, length, refl, sym, ap, ◌∙◌, subst}
use Rattle.std.specs.List.{Contains}
use Rattle.dc_base.specs.declared.ty.Ty.{Ty}
use Rattle.dc_base.specs.declared.ty.Prim_.{Prim_}
use Rattle.dc_base.specs.declared.ty.Prim_.TheVariants.{Bool as BoolPrim}
use Rattle.class_rows.specs.declared.row.TypeRow.{TypeRow}
use Rattle.class_rows.specs.Lookups.{AreAssignable}
use Rattle.cil_rows.specs.declared.row.Row.{Row}
use Rattle.verify_slots.specs.declared.slot.Slot.{Slot}
use Rattle.verify_slots.specs.declared.slot.Slot.TheVariants.{Truth, Refs, Lent}
use Rattle.verify_slots.specs.declared.slot.Mark.{Mark}
use Rattle.verify_slots.specs.declared.slot.Tested.{Tested}
use Rattle.verify_slots.specs.Slots.{IsSubset, IsIn, AreIn}
use Rattle.verify_rules.specs.declared.setting.Setting.{Setting}
use Rattle.verify_rules.specs.declared.held.Held.{Held}
use Rattle.verify_rules.specs.declared.held.Held.TheVariants.{Number, Reference, Address}
use Rattle.verify_rules.specs.Puts.{IsPut, at_top, as_receiver, as_argument, through_address, into_array, this_depth, arguments, FitsTruth, FitsType}
use Rattle.verify_rules.specs.Rules.{PutsFit}
use Rattle.verify_narrower.proofs.View.{View, same, truth, refs, view, lower, over, contains_at, at_contains}

-- what is put at the narrower frame is put at the wider one, and lies in it
record PutOver (s : Setting) (row : Row) (g : List Slot) (a : Slot) (ty : Ty) : Type 0 where
  b : Slot
  is_put : IsPut s row g b ty
  is : IsIn a b

-- an address has but itself over it
address_by : (a b : Slot) → View a b → (ty : Ty) (tested : Tested) → a ≡ Lent ty tested → b ≡ Lent ty tested
address_by _ _ (same a) ty tested e = e
address_by _ _ truth ty tested e = cc
address_by _ _ (refs s t m n sub mark) ty tested e = cc

record SetOver (b : Slot) (set : List Ty) : Type 0 where
  wide : List Ty
  mark : Mark
  is : b ≡ Refs wide mark
  sub : IsSubset set wide

refs_set : (s t : List Ty) (m n : Mark) → Refs s m ≡ Refs t n → IsSubset t s
refs_set s t m n e = λ ty has. subst (λ (xs : List Ty). Contains xs ty) (sym (ap set_of e)) has
  where
    set_of : Slot → List Ty
    set_of (Refs set mark) = set
    set_of _ = s

set_by : (a b : Slot) → View a b → (set : List Ty) (mark : Mark) → a ≡ Refs set mark → SetOver b set
set_by _ _ (same a) set mark e = record { wide = set; mark = mark; is = e; sub = λ ty has. has }
set_by _ _ truth set mark e = cc
set_by _ _ (refs s t m n sub rank) set mark e = record { wide = t; mark = n; is = refl; sub = λ ty has. sub ty (refs_set s set m mark e ty has) }

module _ (s : Setting) (row : Row) (f g : List Slot) (h : AreIn f g) where
  put_over : (a : Slot) (ty : Ty) → IsPut s row f a ty → PutOver s row g a ty
  put_over a ty (at_top e at) = let o = over f g 0 a h at in record { b = o.b; is_put = at_top e o.at; is = o.is }
  put_over a ty (as_receiver e at) = let o = over f g (this_depth s row) a h at in record { b = o.b; is_put = as_receiver e o.at; is = o.is }
  put_over a ty (as_argument k p has e at) =
      let o = over f g (length (arguments s row) - 1 - k) a h at in record { b = o.b; is_put = as_argument k p has e o.at; is = o.is }
  put_over a ty (through_address access tested e under at) =
      let o = over f g 0 a h at in
      let u = over f g 1 (Lent ty tested) h under in
      record { b = o.b; is_put = through_address access tested e (u.at ∙ ap Some (address_by (Lent ty tested) u.b (view (Lent ty tested) u.b u.is) ty tested refl)) o.at; is = o.is }
  put_over a ty (into_array access set mark array e under has el at) =
      let o = over f g 0 a h at in
      let u = over f g 2 (Refs set mark) h under in
      let w = set_by (Refs set mark) u.b (view (Refs set mark) u.b u.is) set mark refl in
      record { b = o.b; is_put = into_array access w.wide w.mark array e (u.at ∙ ap Some w.is) (w.sub array has) el o.at; is = o.is }

  pub puts_in : (Fits : Ty → Slot → Type 0) → ((ty : Ty) (a b : Slot) → IsIn a b → Fits ty b → Fits ty a) → PutsFit s row g Fits → PutsFit s row f Fits
  puts_in Fits kept fit a ty put = let o = put_over a ty put in kept ty a o.b o.is (fit o.b ty o.is_put)

truth_prim : (prim : Prim_) → FitsTruth (Number prim) Truth
truth_prim BoolPrim = tt
truth_prim _ = tt

truth_set : (prim : Prim_) (xs : List Ty) (m : Mark) → FitsTruth (Number prim) (Refs xs m)
truth_set BoolPrim xs m = tt
truth_set _ xs m = tt

kept_truth_by : (held : Held) → FitsTruth held Truth
kept_truth_by (Number prim) = truth_prim prim
kept_truth_by _ = tt

kept_truth_set : (held : Held) (xs : List Ty) (m : Mark) → FitsTruth held (Refs xs m)
kept_truth_set (Number prim) xs m = truth_set prim xs m
kept_truth_set _ xs m = tt

pub kept_truth : (held : Held) (a b : Slot) → IsIn a b → FitsTruth held b → FitsTruth held a
kept_truth held = lower (FitsTruth held) (λ h. kept_truth_by held) (λ xs t m n sub mark h. kept_truth_set held xs m)

pub assignable_in : (types : List TypeRow) (xs t : List Ty) (to : Ty) → IsSubset xs t → AreAssignable types t to → AreAssignable types xs to
assignable_in types xs t to sub all k ty at = let has = sub ty (contains_at xs k ty at) in all has.0 ty (at_contains t ty has)

type_int : (types : List TypeRow) (ty : Ty) (held : Held) → FitsType types ty held Truth
type_int types ty Reference = tt
type_int types ty Address = tt
type_int types ty _ = tt

type_set : (types : List TypeRow) (ty : Ty) (held : Held) (xs t : List Ty) (m n : Mark) → IsSubset xs t → FitsType types ty held (Refs t n) → FitsType types ty held (Refs xs m)
type_set types ty Reference xs t m n sub h = assignable_in types xs t ty sub h
type_set types ty Address xs t m n sub h = tt
type_set types ty _ xs t m n sub h = tt

pub kept_type : (types : List TypeRow) (ty : Ty) (held : Held) (a b : Slot) → IsIn a b → FitsType types ty held b → FitsType types ty held a
kept_type types ty held = lower (FitsType types ty held) (λ h. type_int types ty held) (λ xs t m n sub mark h. type_set types ty held xs t m n sub h)
