use Rattle.std.proofs.Common.{◌≡◌, ◌+◌, ◌*◌, ◌∙◌, true, false, rules, sym, ap, drop}
use Rattle.std.proofs.lemmas.List.{take_rest}
use Rattle.pe_image.specs.Sections.{holds, section_of}
use Rattle.pe_image.proofs.Tables.{first_passes, goes_on}
use Rattle.pe_image.proofs.sections.Table.first_holding.Goals as goal

pub returns-then-holds-clause-found : goal.returns-then-holds-clause-found
returns-then-holds-clause-found c =
    let at = c.args.self.place + 40 * c.loop-i.i in
    let is : section_of (drop at c.args.file.now) ≡ c.of-section.result = ap section_of (sym (take_rest c.args.file.now at)) ∙ sym c.of-section.ensures in
    let passes : holds c.args.rva c.args.len c.of-section.result ≡ true = search rules in
    first_passes (holds c.args.rva c.args.len) c.args.file.now c.args.self.place c.args.self.count c.loop-i.i c.of-section.result _ (search rules) is passes c.loop-i.invariant

pub loop-i-preserved : goal.loop-i-preserved
loop-i-preserved c =
    let at = c.args.self.place + 40 * c.loop-i.i in
    let is : section_of (drop at c.args.file.now) ≡ c.of-section.result = ap section_of (sym (take_rest c.args.file.now at)) ∙ sym c.of-section.ensures in
    let fails : holds c.args.rva c.args.len c.of-section.result ≡ false = search rules in
    goes_on (holds c.args.rva c.args.len) c.args.file.now c.args.self.place c.args.self.count c.loop-i.i c.of-section.result _ (search rules) is fails c.loop-i.invariant
