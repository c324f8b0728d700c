use Rattle.std.proofs.Common.{◌≡◌, ◌+◌, ◌*◌, ◌-◌}
use Rattle.std.specs.Prelude.{find}
use Rattle.pe_image.specs.Sections.{holds}
use Rattle.pe_image.specs.Table.{sections_from, sections_of}
use Rattle.pe_image.proofs.sections.Table.first_holding.Given as goal

abbrev pub invariant-loop-i : goal.invariant-loop-i
invariant-loop-i l =
    find (holds l.rva l.len) (sections_from l.file (l.self.place + 40 * l.i) (l.self.count - l.i)) ≡ find (holds l.rva l.len) (sections_of l.file l.self)
