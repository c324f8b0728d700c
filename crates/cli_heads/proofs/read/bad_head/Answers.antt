use Rattle.cli_heads.proofs.read.bad_head.Goals as goal

pub returns-clause-some : goal.returns-clause-some
returns-clause-some c = rw c.in_ok-offset.ensures at c.in-Err.ensures.fault
