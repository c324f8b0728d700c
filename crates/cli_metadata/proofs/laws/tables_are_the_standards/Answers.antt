use Rattle.cli_metadata.proofs.Standard.{tables_are, coded_are}
use Rattle.cli_metadata.proofs.laws.tables_are_the_standards.Goals as goal

pub returns-clause-tables : goal.returns-clause-tables
returns-clause-tables c = tables_are

pub returns-clause-coded : goal.returns-clause-coded
returns-clause-coded c = coded_are
