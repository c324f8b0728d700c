-- What was put is what was due, and one status is due.
use Rattle.std.proofs.Common.{inl}
use Rattle.ilspy_cli.proofs.Wrote.{wrote_the_same}
use Rattle.ilspy_cli.proofs.program.run.Goals as goal

pub returns-in-Ok-put_all-clause-means_the_same : goal.returns-in-Ok-put_all-clause-means_the_same
returns-in-Ok-put_all-clause-means_the_same g c =
    let written = rw (c.as_bytes.ensures.value, c.as_str.ensures) at c.in-Ok-put_all.ensures.ok in
    wrote_the_same c.text_means_the_same.ensures _ _ c.in-Ok.answer.status c.in-Ok.answer.text _ c.in-Ok.ensures.due written

pub returns-in-Ok-put_all-clause-exact : goal.returns-in-Ok-put_all-clause-exact
returns-in-Ok-put_all-clause-exact g c = λ still _ files told given status text due.
    inl (c.one_due.ensures _ files told still given _ c.in-Ok.answer.status status c.in-Ok.answer.text text c.in-Ok.ensures.due due).0
