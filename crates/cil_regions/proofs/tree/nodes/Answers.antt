use Rattle.std.proofs.Common.{◌≤◌, get_or, sym, subst}
use Rattle.std.specs.List.{All}
use Rattle.cil_regions.proofs.Chain.{linked, begun, chain_step, many_more, no_span}
use Rattle.cil_regions.specs.Laid.{AreLinked}
use Rattle.cil_regions.proofs.tree.nodes.Goals as goal

pub reaching-requires-clause-linked : goal.reaching-requires-clause-linked
reaching-requires-clause-linked c =
    subst AreLinked (sym c.as_slice.ensures.value) (linked c.args.spans.now c.loop-span.nodes.items c.loop-span.invariant.links no_span)

pub reaching-requires-clause-begun : goal.reaching-requires-clause-begun
reaching-requires-clause-begun c =
    subst (All (λ node. node.from ≤ (get_or c.args.spans.now c.loop-span.span-index no_span).from)) (sym c.as_slice.ensures.value)
    (begun c.args.spans.now c.loop-span.nodes.items c.loop-span.invariant.links no_span c.requires.laid c.loop-span.span-index c.loop-span.invariant.many c.loop-span-test.true)

pub loop-span-preserved : goal.loop-span-preserved
loop-span-preserved c = record {
  many = many_more c.loop-span.nodes.items c.push.new.self.items c.loop-span.span-index _ c.loop-span.invariant.many c.in_ok-push.ensures.items;
  links = chain_step c.args.spans.now c.loop-span.nodes.items c.as_slice.result.now c.push.new.self.items c.loop-span.span-index c.unwrap_or-parent.result c.reaching.result c.requires.laid c.loop-span.invariant.links c.loop-span.invariant.many c.loop-span-test.true c.as_slice.ensures.value c.reaching.ensures c.unwrap_or-parent.ensures c.in_ok-push.ensures.items;
}
