use Rattle.std.proofs.Common.{ℕ, ◌<◌, ◌+◌, ◌*◌, drop}
use Rattle.pe_image.specs.Sections.{section_of, IsSection}
use Rattle.pe_image.proofs.sections.table_of.Given as goal

abbrev pub invariant-loop-i : goal.invariant-loop-i
invariant-loop-i l =
    (k : ℕ) → k < l.i → IsSection l.file (l.table.place + 40 * k) (section_of (drop (l.table.place + 40 * k) l.file))
