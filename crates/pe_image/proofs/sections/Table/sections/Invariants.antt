use Rattle.std.proofs.Common.{◌≡◌}
use Rattle.pe_image.specs.Table.{sections_from}
use Rattle.pe_image.proofs.sections.Table.sections.Given as goal

abbrev pub invariant-loop-i : goal.invariant-loop-i
invariant-loop-i l = l.sections.items ≡ sections_from l.file l.self.place l.i
