use Rattle.cil_body.proofs.Consequences.{has_one_body, body_has_no_fault, body_has_one_fault}
use Rattle.cil_body.proofs.laws.one_body.Goals as goal

pub returns : goal.returns
returns c = record { one_body = has_one_body; no_fault = body_has_no_fault; one_fault = body_has_one_fault }
