use Rattle.std.proofs.Common.{sym, subst}
use Rattle.cs_meaning.specs.Ran.{Ran}
use Rattle.cs_meaning.specs.Run.{EndsAs}
use Rattle.cs_meaning.proofs.Blocks.{block_runs}
use Rattle.cs_meaning.proofs.run.exec.Goals as goal

pub returns : goal.returns
returns c =
    subst (λ (r : Ran). EndsAs r c.run_all.result c.run_all.new.state c.run_all.new.fuel)
    (sym (block_runs c.args.stmts.now c.args.fuel.now c.args.state.now)) c.run_all.ensures
