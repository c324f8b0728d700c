use Rattle.std.proofs.Common.{◌≡◌, ◌∙◌, arith, ap, sym}
use Rattle.std.specs.Prelude.{find}
use Rattle.pe_image.specs.Sections.{holds}
use Rattle.pe_image.specs.Image.{IndexParts}
use Rattle.pe_image.proofs.Ranges.{found_is, holds_means}
use Rattle.pe_image.proofs.index.ImageIndex.rest.Goals as goal

pub of-requires : goal.of-requires
of-requires c =
    let view : c.self.inside.sections.items ≡ c.args.self.now.sections = ap (λ (v : IndexParts). v.sections) c.self.view_is in
    let is = found_is (holds c.args.rva 1) c.self.inside.file.now c.self.inside.sections.items c.in_ok-section.section c.self.invariant.within (ap (find (holds c.args.rva 1)) view ∙ sym c.in_ok-section.ensures.found) in
    let held = holds_means c.args.rva 1 c.in_ok-section.section is.0 in
    rw c.range_from.ensures (omega (arith, is.1, held.0, held.1))
