-- The one file is that of the command.
use Rattle.std.proofs.lemmas.Result.{IfOk-weaker}
use Rattle.ilspy_cli.specs.declared.answer.Answer.{Answer}
use Rattle.ilspy_cli.proofs.DueOfFiles.{due_of_show}
use Rattle.ilspy_cli.proofs.answer.answer_request.Goals as goal

pub returns-in-Show : goal.returns-in-Show
returns-in-Show c =
    rw c.in-Show.is
    (IfOk-weaker _ _ _
    (λ (answer : Answer) due. due_of_show (λ file. file.items) c.in-Show.assembly c.args.contents.now c.index-contents-0-in-Show.result answer.status answer.text
    (rw c.in-Show.is at c.requires) c.index-contents-0-in-Show.is (rw c.as_slice-in-Show.ensures.value at due))
    c.show.ensures)
