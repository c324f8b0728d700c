use Rattle.cs_layout.specs.Words.{param_pieces}
use Rattle.cs_layout.proofs.Following.{listed_written}
use Rattle.cs_layout.proofs.words.write_params.Goals as goal

pub loop-index-preserved : goal.loop-index-preserved
loop-index-preserved c =
    listed_written param_pieces _ _ _ _ c.args.params.now c.loop-index.index c.index-params-index.result c.loop-index-test.true c.index-params-index.is c.loop-index.invariant
    c.in_ok-write_comma.ensures c.in_ok-write_param.ensures
