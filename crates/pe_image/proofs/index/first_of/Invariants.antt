use Rattle.std.proofs.Common.{◌≡◌, drop}
use Rattle.std.specs.Prelude.{find}
use Rattle.pe_image.specs.Sections.{holds}
use Rattle.pe_image.proofs.index.first_of.Given as goal

abbrev pub invariant-loop-section : goal.invariant-loop-section
invariant-loop-section l = find (holds l.rva l.len) (drop l.section-index l.sections) ≡ find (holds l.rva l.len) l.sections
