-- The parts of what is put.
use Rattle.std.proofs.Common.{◌≡◌, ◌-◌, List, Option, Some, None, unwrap_or, length, get_or, slice_get, refl, sym, ap, ◌∙◌, subst}
use Rattle.std.proofs.lemmas.Option.{slice_get-get_or, slice_get_within, get_or_from_slice_get}
use Rattle.dc_base.specs.declared.ty.Ty.{Ty}
use Rattle.class_rows.specs.declared.row.Param.{Param}
use Rattle.cil_rows.specs.declared.row.Row.{Row}
use Rattle.cil_rows.specs.declared.row.Row.TheVariants.{StoreElement, StoreIndirect}
use Rattle.cil_rows.specs.declared.row.Access.{Access}
use Rattle.verify_slots.specs.declared.slot.Slot.{Slot}
use Rattle.verify_slots.specs.declared.slot.Slot.TheVariants.{Refs, Lent}
use Rattle.verify_slots.specs.declared.slot.Mark.{Mark}
use Rattle.verify_slots.specs.declared.slot.Tested.{Tested}
use Rattle.verify_rules.specs.declared.setting.Setting.{Setting}
use Rattle.verify_rules.specs.Look.{ty_of_param}
use Rattle.verify_rules.specs.Puts.{at_top, as_receiver, as_argument, through_address, into_array, top_place, this_put, this_depth, arguments}
use Rattle.verify_rules.specs.Rules.{PutsFit}
use Rattle.verify_puts.specs.declared.fit.Fit.{Fit}
use Rattle.verify_puts.specs.Fits.{Fits, FitsThere, ElementsFit, ArrayFits, ThroughFits, PartsFit, place_of, element_at}
use Rattle.verify_puts.specs.Law.{PartsAreAll}

inside : {A : Type 0} (a b : A) → Some a ≡ Some b → a ≡ b
inside a b h = ap (λ o. unwrap_or o a) h

module _ (s : Setting) (fit : Fit) where
  there : (o : Option Ty) (q : Option Slot) (ty : Ty) (slot : Slot) → o ≡ Some ty → q ≡ Some slot → FitsThere s fit o q → Fits s fit ty slot
  there o q ty slot e f h = subst (λ (r : Option Slot). FitsThere s fit (Some ty) r) f (subst (λ (p : Option Ty). FitsThere s fit p q) e h)

  build : (o : Option Ty) (q : Option Slot) → ((ty : Ty) (slot : Slot) → o ≡ Some ty → q ≡ Some slot → Fits s fit ty slot) → FitsThere s fit o q
  build None q h = tt
  build (Some ty) None h = tt
  build (Some ty) (Some slot) h = h ty slot refl refl

  from : (row : Row) (frame : List Slot) → PartsFit s fit row frame → PutsFit s row frame (Fits s fit)
  from row frame parts slot ty (at_top e at) = there (top_place s row) (slice_get frame 0) ty slot e at parts.top
  from row frame parts slot ty (as_receiver e at) = there (this_put s row) (slice_get frame (this_depth s row)) ty slot e at parts.receiver
  from row frame parts slot ty (as_argument k p has e at) =
      there (ty_of_param (slice_get (arguments s row) k)) (slice_get frame (length (arguments s row) - 1 - k)) ty slot (ap ty_of_param has ∙ ap Some (sym e)) at (parts.passed k (slice_get_within (arguments s row) k p has))
  from row frame parts slot ty (through_address access tested e under at) =
      there (place_of (slice_get frame 1)) (slice_get frame 0) ty slot (ap place_of under) at (subst (λ (r : Row). ThroughFits s fit r frame) e parts.through)
  from row frame parts slot ty (into_array access set mark array e under has el at) =
      let all : ArrayFits s fit (slice_get frame 2) (slice_get frame 0) = subst (λ (r : Row). ThroughFits s fit r frame) e parts.through in
      let each : ElementsFit s fit set (slice_get frame 0) = subst (λ (q : Option Slot). ArrayFits s fit q (slice_get frame 0)) under all in
      there (element_at (slice_get set has.0)) (slice_get frame 0) ty slot (ap element_at (slice_get-get_or set has.0 array has.1 ∙ ap Some has.2) ∙ el) at (each has.0 has.1)

  record IsParam (o : Option Param) (ty : Ty) : Type 0 where
    p : Param
    is : o ≡ Some p
    of : ty ≡ p.ty

  param_of : (o : Option Param) (ty : Ty) → ty_of_param o ≡ Some ty → IsParam o ty
  param_of None ty e = cc
  param_of (Some p) ty e = record { p = p; is = refl; of = sym (inside p.ty ty e) }

  record IsLent (q : Option Slot) (ty : Ty) : Type 0 where
    tested : Tested
    is : q ≡ Some (Lent ty tested)

  lent_by : (place : Ty) (tested : Tested) (ty : Ty) → place ≡ ty → IsLent (Some (Lent place tested)) ty
  lent_by place tested ty e = record { tested = tested; is = ap (λ (t : Ty). Some (Lent t tested)) e }

  lent_of : (q : Option Slot) (ty : Ty) → place_of q ≡ Some ty → IsLent q ty
  lent_of None ty e = cc
  lent_of (Some (Lent place tested)) ty e = lent_by place tested ty (inside place ty e)
  lent_of (Some _) ty e = cc

  module _ (row : Row) (frame : List Slot) (puts : PutsFit s row frame (Fits s fit)) where
    element_fits : (access : Access) → row ≡ StoreElement access → (set : List Ty) (mark : Mark) → slice_get frame 2 ≡ Some (Refs set mark) → ElementsFit s fit set (slice_get frame 0)
    element_fits access e set mark under k lt =
        build (element_at (slice_get set k)) (slice_get frame 0) (λ ty slot el at.
        let has : slice_get set k ≡ Some (get_or set k ty) = slice_get-get_or set k ty lt in
        puts slot ty (into_array access set mark (get_or set k ty) e under (k, lt, get_or_from_slice_get set k (get_or set k ty) (get_or set k ty) has) (sym (ap element_at has) ∙ el) at))

    array_fits : (access : Access) → row ≡ StoreElement access → (q : Option Slot) → slice_get frame 2 ≡ q → ArrayFits s fit q (slice_get frame 0)
    array_fits access e None under = tt
    array_fits access e (Some (Refs set mark)) under = element_fits access e set mark under
    array_fits access e (Some _) under = tt

    through_fits : (r : Row) → row ≡ r → ThroughFits s fit r frame
    through_fits (StoreIndirect access) e =
        build (place_of (slice_get frame 1)) (slice_get frame 0) (λ ty slot place at.
        let l = lent_of (slice_get frame 1) ty place in puts slot ty (through_address access l.tested e l.is at))
    through_fits (StoreElement access) e = array_fits access e (slice_get frame 2) refl
    through_fits _ e = tt

    to : PartsFit s fit row frame
    to = record {
      top = build (top_place s row) (slice_get frame 0) (λ ty slot e at. puts slot ty (at_top e at));
      receiver = build (this_put s row) (slice_get frame (this_depth s row)) (λ ty slot e at. puts slot ty (as_receiver e at));
      passed = λ k lt. build (ty_of_param (slice_get (arguments s row) k)) (slice_get frame (length (arguments s row) - 1 - k)) (λ ty slot e at.
          let p = param_of (slice_get (arguments s row) k) ty e in puts slot ty (as_argument k p.p p.is p.of at));
      through = through_fits row refl;
    }

pub parts_are_all : PartsAreAll
parts_are_all s fit row frame = (from s fit row frame, to s fit row frame)
