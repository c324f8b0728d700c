-- The status is that of the run.
use Rattle.ilspy_cli.proofs.process.run_process.Goals as goal

pub returns-in-Ok : goal.returns-in-Ok
returns-in-Ok g c =
    let outcome = rw c.as_slice.ensures.value at c.run.ensures.outcome in
    let means = rw c.as_slice.ensures.value at c.run.ensures.means_the_same in
    rw c.in-Ok.is (c.run.result, c.exit_code.ensures, outcome, means)
