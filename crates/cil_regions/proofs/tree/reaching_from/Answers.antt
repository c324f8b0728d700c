use Rattle.std.proofs.Common.{arith}
use Rattle.cil_regions.proofs.Chain.{climbs, no_node}
use Rattle.cil_regions.proofs.tree.reaching_from.Goals as goal

pub loop-at-preserved : goal.loop-at-preserved
loop-at-preserved c =
    let back = c.requires.linked.before c.loop-at.at no_node (omega arith) c.loop-at.invariant.within in
    record {
      within = omega (arith, back, c.loop-at.invariant.within);
      above = climbs c.args.nodes.now c.args.place c.loop-at.at no_node c.requires.linked c.requires.begun c.loop-at.invariant.within c.loop-at-test.true c.loop-at.invariant.above;
    }
