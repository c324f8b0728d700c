use Rattle.std.proofs.Common.{◌≡◌, take}
use Rattle.cs_copies.proofs.copying.+copying.Given as goal

abbrev pub invariant-copied_exprs-loop-expr : goal.invariant-copied_exprs-loop-expr
invariant-copied_exprs-loop-expr l = l.copy ≡ take l.expr-index l.exprs

abbrev pub invariant-copied_block-loop-stmt : goal.invariant-copied_block-loop-stmt
invariant-copied_block-loop-stmt l = l.copy ≡ take l.stmt-index l.stmts

abbrev pub invariant-copied_sections-loop-section : goal.invariant-copied_sections-loop-section
invariant-copied_sections-loop-section l = l.copy ≡ take l.section-index l.sections

abbrev pub invariant-copied_catches-loop-catch : goal.invariant-copied_catches-loop-catch
invariant-copied_catches-loop-catch l = l.copy ≡ take l.catch-index l.catches
