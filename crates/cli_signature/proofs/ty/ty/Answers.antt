use Rattle.std.proofs.Common.{◌≡◌, ◌+◌, get_or, min, true, [], ◌∷◌, ◌++◌, refl, sym, ◌∙◌, arith, rules}
use Rattle.std.proofs.lemmas.Result.{err_from_is_err_and}
use Rattle.cli_signature.proofs.Marks.{inside_none, inside_array, inside_ref, read_inside, fault_inside, cut_off_at, past, past_place, inside_same, array_byte, ref_byte}
use Rattle.cli_signature.proofs.ty.ty.Goals as goal
use Rattle.cli_signature.proofs.ty.ty.Goals.{in-SzArray, in-ByRef}
use Rattle.cli_signature.specs.declared.kind.Slot.TheVariants.{Behind}
use Rattle.cli_signature.specs.Grammar.{TakesRef}

pub loop-place-init : goal.loop-place-init
loop-place-init c =
    record { within = c.requires.within; low = omega arith; marks = ([], refl, omega arith, inside_none c.args.slot) }

pub returns-in_err-found-in_default-clause-fault : goal.returns-in_err-found-in_default-clause-fault
returns-in_err-found-in_default-clause-fault c =
    let p = err_from_is_err_and c.from_residual.result c.from_residual.ensures.1 in
    let m = c.loop-place.invariant.marks in
    rw (p.1, p.2)
    (fault_inside c.args.slot c.loop-place.slot c.args.blob.now m.0 c.args.at c.loop-place.place c.loop-place.lent c.loop-place.arrays c.in_err-found-in_default.field-0.0 m.3 m.1 m.2 c.in_err-found-in_default.ensures.fault)

pub returns-in_default-clause-read : goal.returns-in_default-clause-read
returns-in_default-clause-read c =
    let m = c.loop-place.invariant.marks in
    read_inside c.args.slot c.loop-place.slot c.args.blob.now m.0 c.args.at c.loop-place.place c.in_ok-found-in_default.after c.loop-place.lent c.loop-place.arrays c.in_ok-found-in_default.found m.3 m.1 c.loop-place.invariant.low c.in_ok-found-in_default.ensures.read c.in_ok-found-in_default.ensures.arrays c.in_ok-found-in_default.ensures.lent

pub loop-place-preserved : goal.loop-place-preserved
loop-place-preserved c =
    let m = c.loop-place.invariant.marks in
    let blob = c.args.blob.now in
    let place = c.loop-place.place in
    let s = c.loop-place.slot in
    elim c.match-look_up.branch [
      | in-SzArray w ↦
          let byte = array_byte (get_or blob place 0) (sym c.look_up.ensures ∙ w.in-SzArray.is) in
          let counts : min (c.loop-place.arrays + 1) 255 ≡ c.match-look_up.arrays = omega arith in
          record {
            within = omega arith;
            low = omega arith;
            marks = (m.0 ++ 0x1D ∷ [], past blob m.0 c.args.at place 0x1D m.1 c.loop-place-test.true byte, past_place m.0 c.args.at place 0x1D m.2, inside_same c.args.slot Behind (m.0 ++ 0x1D ∷ []) c.loop-place.lent c.match-look_up.lent (min (c.loop-place.arrays + 1) 255) c.match-look_up.arrays (sym w.lent-is) counts (inside_array c.args.slot s m.0 c.loop-place.lent c.loop-place.arrays m.3));
          }
      | in-ByRef w ↦
          let byte = ref_byte (get_or blob place 0) (sym c.look_up.ensures ∙ w.in-ByRef.is) in
          let takes : TakesRef s = search rules in
          let counts : c.loop-place.arrays ≡ c.match-look_up.arrays = omega arith in
          record {
            within = omega arith;
            low = omega arith;
            marks = (m.0 ++ 0x10 ∷ [], past blob m.0 c.args.at place 0x10 m.1 c.loop-place-test.true byte, past_place m.0 c.args.at place 0x10 m.2, inside_same c.args.slot Behind (m.0 ++ 0x10 ∷ []) true c.match-look_up.lent c.loop-place.arrays c.match-look_up.arrays (sym w.lent-is) counts (inside_ref c.args.slot s m.0 c.loop-place.lent c.loop-place.arrays takes m.3));
          }
    ]

pub returns-clause-fault : goal.returns-clause-fault
returns-clause-fault c =
    let m = c.loop-place.invariant.marks in
    cut_off_at c.args.slot c.loop-place.slot c.args.blob.now m.0 c.args.at c.loop-place.place c.loop-place.lent c.loop-place.arrays m.3 m.1 m.2 c.loop-place-test.false c.loop-place.invariant.within
