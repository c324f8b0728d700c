-- The text of a lone body's flat form is due, or the line of its fault.
use Rattle.std.proofs.Common.{ap, ◌∙◌, refl, rules}
use Rattle.ilspy_body.specs.Flat.{flat_of}
use Rattle.ilspy_body.specs.Layout.{text_of}
use Rattle.ilspy_cli.specs.Outcome.{written, refused}
use Rattle.ilspy_cli.proofs.answer.answer_body.Goals as goal

pub returns-in_ok-text-in-Ok : goal.returns-in_ok-text-in-Ok
returns-in_ok-text-in-Ok c =
    written c.in-Ok.code.items c.in-Ok.ensures.read refl
    (c.in_ok-text-in-Ok.ensures ∙ ap text_of (c.in_ok-body-in-Ok.ensures.flat ∙ ap flat_of c.as_slice.ensures.value))

pub returns-in_ok-fault-in-Err-Fault : goal.returns-in_ok-fault-in-Err-Fault
returns-in_ok-fault-in-Err-Fault c = refused c.in-Err-Fault.fault (search rules) refl c.in_ok-fault-in-Err-Fault.ensures
