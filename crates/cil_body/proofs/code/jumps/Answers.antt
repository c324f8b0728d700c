use Rattle.std.proofs.Common.{◌∙◌, sym}
use Rattle.cil_body.proofs.JumpFacts.{length-jumps}
use Rattle.cil_body.proofs.code.jumps.Goals as goal

pub returns-in-Switch : goal.returns-in-Switch
returns-in-Switch c =
    c.cases.ensures ∙ sym (length-jumps c.args.found.operand c.args.found.simple.arg c.args.bytes.now c.in-Switch.is)
