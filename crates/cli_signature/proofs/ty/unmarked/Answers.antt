use Rattle.std.proofs.Common.{rules, sym, subst, ◌∙◌}
use Rattle.std.proofs.lemmas.Result.{err_from_is_err_and}
use Rattle.cli_signature.specs.Grammar.{TakesVoid}
use Rattle.cli_signature.proofs.Marks.{read_plain, read_void, read_named, named_fault, left_out_at, bad_element_at, not_taken}
use Rattle.cli_signature.proofs.ty.unmarked.Goals as goal
use Rattle.cli_signature.proofs.ty.unmarked.Goals.{in_default-via-in-Void+else-takes_void, in_default-via-in_default}
use Rattle.cli_signature.specs.declared.element.Part.TheVariants.{Void as VoidPart}
use Rattle.cli_signature.specs.Reading.{IsMarkPart}

pub returns-in_err-n-in-Named-clause-fault : goal.returns-in_err-n-in-Named-clause-fault
returns-in_err-n-in-Named-clause-fault c =
    let p = err_from_is_err_and c.from_residual.result c.from_residual.ensures.1 in
    rw (p.1, p.2)
    (named_fault c.args.slot c.args.blob.now c.args.at c.in_err-n-in-Named.field-0.0 c.requires.within (sym c.look_up.ensures ∙ c.in-Named.is) c.in_err-n-in-Named.ensures.fault)

pub returns-in-Plain-clause-read : goal.returns-in-Plain-clause-read
returns-in-Plain-clause-read c =
    read_plain c.args.slot c.args.blob.now c.args.at c.bare.result c.requires.within (sym c.look_up.ensures ∙ c.in-Plain.is) c.bare.ensures

pub returns-in-Void-clause-read : goal.returns-in-Void-clause-read
returns-in-Void-clause-read c =
    let takes : TakesVoid c.args.slot = search rules in
    read_void c.args.slot c.args.blob.now c.args.at c.bare-in-Void.result c.requires.within (sym c.look_up.ensures ∙ c.in-Void.is) takes c.bare-in-Void.ensures

pub returns-in_ok-n-in-Named-clause-read : goal.returns-in_ok-n-in-Named-clause-read
returns-in_ok-n-in-Named-clause-read c =
    read_named c.args.slot c.args.blob.now c.args.at c.in_ok-n-in-Named.n c.in_ok-n-in-Named.after c.bare-in-Named.result c.requires.within (sym c.look_up.ensures ∙ c.in-Named.is) c.in_ok-n-in-Named.ensures.read (rw c.token.ensures at c.bare-in-Named.ensures)

pub returns-in-LeftOut-clause-fault : goal.returns-in-LeftOut-clause-fault
returns-in-LeftOut-clause-fault c =
    left_out_at c.args.slot c.args.blob.now c.args.at c.requires.within (sym c.look_up.ensures ∙ c.in-LeftOut.is)

pub returns-in_default-clause-fault : goal.returns-in_default-clause-fault
returns-in_default-clause-fault c =
    let part = c.look_up.result in
    let at = sym c.look_up.ensures in
    elim c.in_default.branch [
      | in_default-via-in-Void+else-takes_void w ↦
          let closed : TakesVoid c.args.slot → ⊥ = search rules in
          bad_element_at c.args.slot c.args.blob.now c.args.at VoidPart c.requires.within (at ∙ w.in-Void.is) closed (λ e. cc)
      | in_default-via-in_default w ↦
          let unmarked : IsMarkPart c.args.slot part → ⊥ = λ m. c.requires.bare (subst (IsMarkPart c.args.slot) c.look_up.ensures m) in
          bad_element_at c.args.slot c.args.blob.now c.args.at part c.requires.within at (not_taken c.args.slot part w.in_default.not-Plain w.in_default.not-Void w.in_default.not-Named unmarked) w.in_default.not-LeftOut
    ]
