-- The sizes follow from what is read.
use Rattle.std.proofs.Common.{◌≡◌, ◌∙◌}
use Rattle.cil_instruction.specs.Instruction.{instruction_at}
use Rattle.cil_instruction.proofs.InstructionFacts.{if_read-some, if_read-within, instruction_at-prefixed, instruction_at-unprefixed}
use Rattle.cil_instruction.proofs.instruction.first.Goals as goal

pub returns-then-code : goal.returns-then-code
returns-then-code c =
    let read : c.prefixed.result ≡ instruction_at c.args.bytes.now = c.prefixed.ensures ∙ instruction_at-prefixed c.args.bytes.now c.in-len1-up.len_at_least c.if-code.true in
    record {
      read = read;
      some = if_read-some c.prefixed.result c.args.bytes.now read;
      within = if_read-within c.prefixed.result c.args.bytes.now read;
    }

pub returns-else-code : goal.returns-else-code
returns-else-code c =
    let read : c.with_code.result ≡ instruction_at c.args.bytes.now =
    c.with_code.ensures ∙ rw c.from.ensures (instruction_at-unprefixed c.args.bytes.now c.in-len1-up.len_at_least c.if-code.false) in
    record {
      read = read;
      some = if_read-some c.with_code.result c.args.bytes.now read;
      within = if_read-within c.with_code.result c.args.bytes.now read;
    }
