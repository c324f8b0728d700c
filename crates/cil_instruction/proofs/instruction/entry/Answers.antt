-- The search in the table is `find` over its lines.
use Rattle.std.proofs.Common.{rules, tests, ◌∙◌}
use Rattle.std.specs.Prelude.{◌==◌}
use Rattle.std.proofs.lemmas.Iterator.{YieldsList-from_slice}
use Rattle.std.proofs.lemmas.Iterator.Search.{find_from_yields_List}
use Rattle.cil_instruction.specs.Opcode.{Line}
use Rattle.cil_instruction.specs.declared.opcode.TheConstants.{TABLE}
use Rattle.cil_instruction.proofs.instruction.entry.Goals as goal

pub returns : goal.returns
returns c =
    let found =
    find_from_yields_List (λ (e : Line). e.0 == c.args.code) _ _ c.find.result c.find.ensures.ran
    (YieldsList-from_slice TABLE c.iter.ensures.rest)
    (λ x b q k. search (rules, tests)) in
    c.copied.ensures ∙ found
