use Rattle.std.proofs.Common.{refl, subst, sym, arith}
use Rattle.pe_image.specs.Sections.{IsSection}
use Rattle.pe_image.proofs.Tables.{length-sections_from, get_or-sections_from}
use Rattle.pe_image.proofs.sections.table_of.Goals as goal

pub returns-then-not-is_section-clause-fault : goal.returns-then-not-is_section-clause-fault
returns-then-not-is_section-clause-fault c =
    rw (← c.table.ensures)
    (c.loop-i.i, omega (arith, c.loop-i-test.true, c.from-i-end.ensures), (λ j less. (_, c.loop-i.invariant j less)), (c.if-not-is_section.ensures.no, refl))

pub returns-clause-read : goal.returns-clause-read
returns-clause-read c =
    rw (← c.table.ensures) (
      length-sections_from _ _ _,
      λ k d less.
          subst (IsSection c.args.file.now _) (sym (get_or-sections_from c.args.file.now c.table.result c.args.headers.section_count k d less))
          (c.loop-i.invariant k (omega (arith, less, c.loop-i-test.false, c.from-i-end.ensures))),
    )
