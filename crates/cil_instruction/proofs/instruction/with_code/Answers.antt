-- Each exit of the function is one of the cases of the definition.
use Rattle.std.proofs.Common.{◌≡◌, ◌≤◌, length, arith, rules, sym, to_z, of_z, w64, ◌∙◌}
use Rattle.std.proofs.lemmas.Int.{to_z-of_z}
use Rattle.cil_instruction.specs.Instruction.{operand_size}
use Rattle.cil_instruction.proofs.InstructionFacts.{operand_len-le, with_entry-short, with_entry-whole}
use Rattle.cil_instruction.proofs.instruction.with_code.Goals as goal

pub returns-then-behind-len : goal.returns-then-behind-len
returns-then-behind-len c =
    let le = operand_len-le c.in-Some.operand c.args.behind.now in
    with_entry-short c.args.len c.args.code _ (c.in-Some.field-0-0, c.in-Some.op, c.in-Some.operand) c.args.behind.now (sym c.entry.ensures ∙ c.in-Some.is) (omega arith)

pub returns-then-behind-size : goal.returns-then-behind-size
returns-then-behind-size c =
    with_entry-short c.args.len c.args.code _ (c.in-Some.field-0-0, c.in-Some.op, c.in-Some.operand) c.args.behind.now (sym c.entry.ensures ∙ c.in-Some.is) (omega arith)

pub returns : goal.returns
returns c =
    let same : to_z w64 (of_z w64 c.number-arg.result) ≡ c.number-arg.result = search (rules, to_z-of_z) in
    let whole : operand_size c.in-Some.operand c.args.behind.now ≤ length c.args.behind.now = omega arith in
    rw (same, c.number-arg.ensures, c.size_of-size.ensures)
    (with_entry-whole c.args.len c.args.code _ (c.in-Some.field-0-0, c.in-Some.op, c.in-Some.operand) c.args.behind.now (sym c.entry.ensures ∙ c.in-Some.is) whole)
