use Rattle.cli_cells.proofs.check.check_cells.Goals as goal

pub returns-in-None-clause-stand : goal.returns-in-None-clause-stand
returns-in-None-clause-stand c = c.in-None.ensures.met
