use Rattle.std.proofs.Common.{◌≡◌, ◌∙◌, ◌+◌, ◌*◌, ◌++◌, List, [], ◌∷◌, rules, arith, ap, sym, drop}
use Rattle.std.proofs.lemmas.List.{take_rest}
use Rattle.pe_image.specs.declared.sections.Section.{Section}
use Rattle.pe_image.specs.Sections.{section_of}
use Rattle.pe_image.specs.Table.{sections_from}
use Rattle.pe_image.proofs.Tables.{sections_more}
use Rattle.pe_image.proofs.sections.Table.sections.Goals as goal

pub slice_bounds-header-count : goal.slice_bounds-header-count
slice_bounds-header-count c = omega (arith, (c.requires c.loop-i.i (search rules)).within)

pub slice_bounds-header-start : goal.slice_bounds-header-start
slice_bounds-header-start c = omega (arith, (c.requires c.loop-i.i (search rules)).within)

pub loop-i-preserved : goal.loop-i-preserved
loop-i-preserved c =
    let at = c.args.self.place + 40 * c.loop-i.i in
    let is : c.of.result ≡ section_of (drop at c.args.file.now) = c.of.ensures ∙ ap section_of (take_rest c.args.file.now at) in
    c.in_ok-push.ensures.items ∙ ap (λ (ss : List Section). ss ++ (c.of.result ∷ [])) c.loop-i.invariant
    ∙ ap (λ (s : Section). sections_from c.args.file.now c.args.self.place c.loop-i.i ++ (s ∷ [])) is
    ∙ sym (sections_more c.args.file.now c.args.self.place c.loop-i.i)
