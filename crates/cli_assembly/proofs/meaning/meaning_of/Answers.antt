use Rattle.std.proofs.Common.{sym, ap, ◌∙◌}
use Rattle.std.proofs.Common.{arith}
use Rattle.cli_assembly.specs.Meaning.{number_of}
use Rattle.cli_assembly.proofs.Found.{here, nowhere}
use Rattle.cli_assembly.proofs.meaning.meaning_of.Goals as goal
use Rattle.cli_assembly.proofs.meaning.meaning_of.Goals.{in_default-via-in-Some+else-found-token, in_default-via-in_default}

pub returns-in-Some : goal.returns-in-Some
returns-in-Some c =
    sym (here c.args.tokens.now c.args.token c.below-number.result c.below-number.ensures.parts c.in-Some.field-0.now c.in-Some.ensures.lookup.3.0 c.in-Some.ensures.lookup.3.1 c.if-found-token.true)

pub returns-in_default : goal.returns-in_default
returns-in_default c =
    sym (nowhere c.args.tokens.now c.args.token c.below-number.result c.below-number.ensures.parts c.requires (λ d lt is.
    elim c.in_default.branch [
      | in_default-via-in-Some+else-found-token w ↦ w.if-found-token.false (ap number_of (w.in-Some.ensures.lookup.3.1 d) ∙ is)
      | in_default-via-in_default w ↦ omega (arith, lt, w.in_default.ensures.lookup.3)
    ]))
