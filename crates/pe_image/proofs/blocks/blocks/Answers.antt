use Rattle.std.proofs.Common.{refl}
use Rattle.pe_image.proofs.Reaches.{blocks_more}
use Rattle.pe_image.proofs.blocks.blocks.Goals as goal

pub loop-from-preserved : goal.loop-from-preserved
loop-from-preserved c =
    blocks_more c.args.sections.now _ c.args.width c.loop-from.from c.min-count.result c.loop-from.blocks.items c.push.new.self.items c.in_ok-reaches.field-0 c.loop-from.invariant c.requires c.loop-from-test.true
    c.min-count.ensures refl c.in_ok-reaches.ensures c.in_ok-push.ensures.items
