-- So far the form has the rules of the names before this one.
use Rattle.std.proofs.Common.{◌≡◌, map, take}
use Rattle.std.specs.Prelude.{fold}
use Rattle.clap.specs.Words.{app_of, with_rule}
use Rattle.ilspy_cli.specs.Words.{text_rule}
use Rattle.ilspy_cli.proofs.words.Command.form.Given as goal

abbrev pub invariant-loop-name : goal.invariant-loop-name
invariant-loop-name l =
    app_of l.form ≡ fold (λ form name. with_rule form (text_rule name)) (app_of l.initial.form) (map (λ name. name.now) (take l.name-index l.name-items))
