use Rattle.verify_puts.proofs.Parts.{parts_are_all}
use Rattle.verify_puts.proofs.law.parts_are_all.Goals as goal

pub returns : goal.returns
returns c = parts_are_all
