-- A parse that gave matches has the texts of the names, or there are none.
use Rattle.std.proofs.Common.{map, rules}
use Rattle.std.proofs.lemmas.Result.{IfOk-weaker}
use Rattle.clap.specs.Walk.{rows_of}
use Rattle.clap.specs.Matches.{found_of}
use Rattle.ilspy_cli.specs.Words.{AreMatched}
use Rattle.ilspy_cli.proofs.FormFacts.{parse_tells, matched, found, none_matched}
use Rattle.ilspy_cli.proofs.Lists.{match_same}
use Rattle.ilspy_cli.proofs.words.Command.texts.Goals as goal

pub returns-in-Ok : goal.returns-in-Ok
returns-in-Ok c =
    let words = map (λ word. word.now) c.args.words.now in
    let rows = rows_of (found_of c.in-Ok.matches) in
    let told = parse_tells c.args.self c.in_ok-form.field-0 words c.in-Ok.matches c.in_ok-form.ensures c.in-Ok.ensures.kinds c.in-Ok.ensures.matches in
    IfOk-weaker _ _ _
    (match_same (λ texts. map (λ text. text.now) texts.items) _ (AreMatched c.args.self words)
    (matched (λ name. name.now) c.names.result.now c.args.self words rows told.0 told.1 c.names.ensures)
    (found (λ name. name.now) c.names.result.now c.args.self words rows told.1 c.names.ensures))
    c.values.ensures

pub returns : goal.returns
returns c = λ texts are.
    none_matched c.args.self c.in_ok-form.field-0 (map (λ word. word.now) c.args.words.now) texts c.in-Err-2.field-0 c.in_ok-form.ensures c.in-Err-2.ensures.kinds (search rules) are
