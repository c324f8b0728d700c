-- One more text is one more rule.
use Rattle.std.proofs.Common.{Bor, ℕ, List, []}
use Rattle.clap.specs.Words.{app_of, with_rule}
use Rattle.ilspy_cli.specs.Words.{text_rule}
use Rattle.ilspy_cli.proofs.Lists.{fold_step}
use Rattle.ilspy_cli.proofs.words.Command.form.Goals as goal

pub loop-name-preserved : goal.loop-name-preserved
loop-name-preserved c =
    let none : Bor (List ℕ) = record { ref_ptr = (0, 0); now = [] } in
    fold_step (λ form name. with_rule form (text_rule name)) (app_of c.disable_version_flag-form.result) (λ name. name.now) c.names-name-items.result.now c.loop-name.name-index none
    (app_of c.loop-name.form) (app_of c.in_ok-form.form) c.loop-name-test.true c.loop-name.invariant c.in_ok-form.ensures
