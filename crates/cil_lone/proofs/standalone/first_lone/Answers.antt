use Rattle.std.proofs.Common.{◌≡◌, rules, arith, to_z, of_z, w64, to_z-of_z}
use Rattle.std.proofs.lemmas.List.{take_rest}
use Rattle.cil_instruction.specs.Opcode.{Line}
use Rattle.cil_lone.proofs.Fields.{lone_at-short, lone_at-read}
use Rattle.cil_lone.proofs.standalone.first_lone.Goals as goal

pub returns-then-behind-len : goal.returns-then-behind-len
returns-then-behind-len c =
    let line : Line = (c.in-Some.field-0-0, c.in-Some.op, c.in-Some.operand) in
    lone_at-short c.args.bytes.now c.from.result line c.of.result c.len.result (omega arith) c.from.ensures c.in-Some.ensures c.of.ensures c.in_default-of.not-Beyond c.len.ensures
    (rw take_rest at c.if-behind-len.true)

pub returns : goal.returns
returns c =
    let line : Line = (c.in-Some.field-0-0, c.in-Some.op, c.in-Some.operand) in
    let same : to_z w64 (of_z w64 c.number.result) ≡ c.number.result = search (rules, to_z-of_z) in
    rw same
    (lone_at-read c.args.bytes.now c.from.result line c.of.result c.len.result (omega arith) c.from.ensures c.in-Some.ensures c.of.ensures c.in_default-of.not-Beyond c.len.ensures c.number.result
    (rw take_rest at c.if-behind-len.false) (rw take_rest at c.number.ensures))
