-- The next name has a value, or the matches have none for it.
use Rattle.std.proofs.Common.{◌∙◌, sym}
use Rattle.clap.specs.Walk.{rows_of, first_of}
use Rattle.clap.specs.Matches.{found_of}
use Rattle.clap.proofs.WalkLemmas.{first_value-rows}
use Rattle.ilspy_cli.proofs.Lists.{values_more, not_all_found}
use Rattle.ilspy_cli.proofs.words.values.Goals as goal

pub returns-in_default : goal.returns-in_default
returns-in_default c = λ texts all.
    not_all_found (λ name. first_of name.now (rows_of (found_of c.args.matches.now))) c.args.names.now c.loop-name.name-index _ texts c.loop-name-test.true
    (sym (first_value-rows (found_of c.args.matches.now) _) ∙ sym c.in_default.ensures) all

pub loop-name-preserved : goal.loop-name-preserved
loop-name-preserved c =
    rw c.in_ok-push.ensures.items
    (values_more (λ name. first_of name.now (rows_of (found_of c.args.matches.now))) (λ value. value.now) c.args.names.now c.loop-name.values.items
    c.loop-name.name-index _ c.in-Some.value c.loop-name-test.true c.loop-name.invariant
    (sym (first_value-rows (found_of c.args.matches.now) _) ∙ sym c.in-Some.ensures))
