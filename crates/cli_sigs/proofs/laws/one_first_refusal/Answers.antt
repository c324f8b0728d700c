use Rattle.cli_sigs.proofs.One.{one_refusal}
use Rattle.cli_sigs.proofs.laws.one_first_refusal.Goals as goal

pub returns : goal.returns
returns c = one_refusal c.one_number_begins.ensures c.one_reading.ensures.one_fault
