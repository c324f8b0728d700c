use Rattle.std.proofs.Common.{get_or, rules, arith}
use Rattle.cli_signature.specs.Grammar.{IsLead}
use Rattle.cli_signature.specs.Fault.{IsLeadLeftOut}
use Rattle.cli_signature.proofs.Blobs.{lead_missing, lead_left_out, lead_bad}
use Rattle.cli_signature.proofs.signature.lead.Goals as goal

pub returns-in_default-clause-fault : goal.returns-in_default-clause-fault
returns-in_default-clause-fault c = lead_missing c.args.kind c.args.blob.now (omega arith)

pub returns-then-is_left_out-clause-fault : goal.returns-then-is_left_out-clause-fault
returns-then-is_left_out-clause-fault c =
    let other : IsLead c.args.kind (get_or c.args.blob.now 0 0) → ⊥ = search rules in
    let left : IsLeadLeftOut (get_or c.args.blob.now 0 0) = search rules in
    lead_left_out c.args.kind c.args.blob.now (omega arith) other left

pub returns-clause-fault : goal.returns-clause-fault
returns-clause-fault c =
    let other : IsLead c.args.kind (get_or c.args.blob.now 0 0) → ⊥ = search rules in
    let left : IsLeadLeftOut (get_or c.args.blob.now 0 0) → ⊥ = search rules in
    lead_bad c.args.kind c.args.blob.now (omega arith) other left
