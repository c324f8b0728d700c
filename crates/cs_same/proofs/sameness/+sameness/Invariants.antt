use Rattle.std.proofs.Common.{◌≡◌, take, length}
use Rattle.cs_same.proofs.sameness.+sameness.Given as goal

abbrev pub invariant-same_exprs-loop-index : goal.invariant-same_exprs-loop-index
invariant-same_exprs-loop-index l = (length l.exprs ≡ length l.other) × (take l.index l.exprs ≡ take l.index l.other)

abbrev pub invariant-same_block-loop-index : goal.invariant-same_block-loop-index
invariant-same_block-loop-index l = (length l.stmts ≡ length l.other) × (take l.index l.stmts ≡ take l.index l.other)

abbrev pub invariant-same_sections-loop-index : goal.invariant-same_sections-loop-index
invariant-same_sections-loop-index l = (length l.sections ≡ length l.other) × (take l.index l.sections ≡ take l.index l.other)

abbrev pub invariant-same_catches-loop-index : goal.invariant-same_catches-loop-index
invariant-same_catches-loop-index l = (length l.catches ≡ length l.other) × (take l.index l.catches ≡ take l.index l.other)
