-- What is due for the files, or for the first that wasn't given, is due for the words.
use Rattle.std.proofs.Common.{ap, ◌∙◌, map, rules}
use Rattle.std.proofs.lemmas.Result.{IfOk-weaker}
use Rattle.ilspy_cli.specs.declared.answer.Answer.{Answer}
use Rattle.ilspy_cli.specs.Files.{wanted}
use Rattle.ilspy_cli.proofs.DueOfFiles.{due_of_files, due_of_untaken}
use Rattle.ilspy_cli.proofs.answer.answer_words.Goals as goal

pub returns-in-Ok-clause-due : goal.returns-in-Ok-clause-due
returns-in-Ok-clause-due g c =
    let files = ap (map (λ file. wanted file.0.now file.1)) c.as_slice.ensures.value ∙ c.in_ok-files.ensures in
    let contents = ap (map (λ file. file.items)) c.as_slice-in-Ok.ensures.value in
    IfOk-weaker _ _ _
    (λ (answer : Answer) due. due_of_files _ c.args.words.now c.in-Some.request _ _ _ answer.status answer.text (search rules) files contents c.in-Ok.ensures.taken due)
    c.answer_request.ensures

pub returns-clause-due : goal.returns-clause-due
returns-clause-due g c =
    let files = ap (map (λ file. wanted file.0.now file.1)) c.as_slice.ensures.value ∙ c.in_ok-files.ensures in
    IfOk-weaker _ _ _
    (λ (answer : Answer) due. due_of_untaken _ c.args.words.now c.in-Some.request _ c.in-Err-Fault.untaken answer.status answer.text (search rules) files (search rules) due)
    c.answer_untaken.ensures
