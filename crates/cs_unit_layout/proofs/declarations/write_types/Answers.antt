use Rattle.cs_layout.specs.Words.{type_pieces}
use Rattle.cs_layout.proofs.Following.{listed_written}
use Rattle.cs_unit_layout.proofs.declarations.write_types.Goals as goal

pub loop-index-preserved : goal.loop-index-preserved
loop-index-preserved c =
    listed_written type_pieces _ _ _ _ c.args.types.now c.loop-index.index c.index-types-index.result c.loop-index-test.true c.index-types-index.is c.loop-index.invariant
    c.in_ok-write_comma.ensures c.in_ok-write_type.ensures
