-- A put takes the text further, or leaves a front of it.
use Rattle.std.proofs.lemmas.Result.{err_from_is_err_and}
use Rattle.ilspy_cli.proofs.Progress.{further, cut_short}
use Rattle.ilspy_cli.proofs.put.put_all.Goals as goal

pub returns-in_err-done-clause-failed : goal.returns-in_err-done-clause-failed
returns-in_err-done-clause-failed g c =
    let p = err_from_is_err_and c.from_residual.result c.from_residual.ensures.1 in
    rw p.1 (cut_short _ _ _ _ _ _ _ _ c.loop-done.invariant c.in_err-done.ensures.puts c.in_err-done.ensures.counts)

pub loop-done-preserved : goal.loop-done-preserved
loop-done-preserved g c = further _ _ _ _ _ _ _ _ _ _ c.loop-done.invariant c.piece.ensures.next c.in_ok-done.ensures.puts c.in_ok-done.ensures.counts
