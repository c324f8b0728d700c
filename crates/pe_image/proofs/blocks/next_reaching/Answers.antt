use Rattle.std.proofs.Common.{arith}
use Rattle.pe_image.proofs.Reaches.{short_more}
use Rattle.pe_image.proofs.blocks.next_reaching.Goals as goal

pub loop-block-preserved : goal.loop-block-preserved
loop-block-preserved c = record {
  onwards = omega (arith, c.loop-block.invariant.onwards);
  passed = short_more c.args.blocks.now c.args.from c.loop-block.block c.args.rva c.args.end c.greatest_end.result c.index-blocks-block.result c.as_slice.result.now c.loop-block.invariant.passed c.loop-block-test.true c.index-blocks-block.is c.as_slice.ensures.value c.greatest_end.ensures c.if-greatest_end-end.true;
}
