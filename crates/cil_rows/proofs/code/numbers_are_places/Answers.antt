use Rattle.cil_rows.proofs.Numbers.{places}
use Rattle.cil_rows.proofs.Aims.{aims}
use Rattle.cil_rows.proofs.code.numbers_are_places.Goals as goal

pub returns-clause-places : goal.returns-clause-places
returns-clause-places c = places

pub returns-clause-aims : goal.returns-clause-aims
returns-clause-aims c = aims
