use Rattle.std.proofs.Common.{◌≡◌, ◌∙◌, sym, pos, rules, arith, to_z, of_z, w64}
use Rattle.std.proofs.lemmas.Int.{to_z-of_z}
use Rattle.cil_body.proofs.JumpFacts.{length-jumps, get_or-jumps}
use Rattle.cil_body.proofs.code.jump.Goals as goal

pub case-requires-clause-there : goal.case-requires-clause-there
case-requires-clause-there c =
    let long = length-jumps c.args.found.operand c.args.found.simple.arg c.args.bytes.now c.in-Switch.is in
    let there = c.requires.there c.in-Switch.is in
    omega arith

pub returns-in-Switch : goal.returns-in-Switch
returns-in-Switch c =
    let same : to_z w64 (of_z w64 c.case.result) ≡ c.case.result = search (rules, to_z-of_z) in
    same ∙ c.case.ensures
    ∙ sym (get_or-jumps c.args.found.operand c.args.found.simple.arg c.args.bytes.now c.args.k (pos 0) c.in-Switch.is c.requires.within)
