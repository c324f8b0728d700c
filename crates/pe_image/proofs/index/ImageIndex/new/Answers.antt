use Rattle.std.proofs.Common.{List, sym, subst, ap, arith, length}
use Rattle.pe_image.specs.declared.sections.Section.{Section}
use Rattle.pe_image.specs.Within.{AreWithin}
use Rattle.pe_image.specs.Blocks.{AreBlocks}
use Rattle.pe_image.proofs.Tables.{table_within, length-sections_from}
use Rattle.pe_image.proofs.index.ImageIndex.new.Goals as goal

pub invariant_of-result : goal.invariant_of-result
invariant_of-result c =
    record {
      short = c.requires.short;
      few = omega (arith, ap length c.in_ok-sections.ensures, length-sections_from c.args.file.now c.args.table.place c.args.table.count);
      within = subst (AreWithin c.args.file.now) (sym c.in_ok-sections.ensures) (table_within c.args.file.now c.args.table c.requires.table);
      blocks = subst (λ (ss : List Section). AreBlocks ss 64 c.in_ok-blocks.blocks.items) c.as_slice-2.ensures.value c.in_ok-blocks.ensures;
      wide = subst (λ (ss : List Section). AreBlocks ss 2048 c.in_ok-wide.wide.items) c.as_slice.ensures.value c.in_ok-wide.ensures;
    }
