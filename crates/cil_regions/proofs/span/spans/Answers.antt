use Rattle.std.proofs.Common.{length, ap, ◌∙◌, arith}
use Rattle.cil_regions.proofs.Begun.{spans_step, spans_all}
use Rattle.cil_regions.proofs.span.spans.Goals as goal

pub loop-i-preserved : goal.loop-i-preserved
loop-i-preserved c =
    spans_step c.args.body.now c.loop-i.i _ c.items-clauses.result.now c.args.firsts.now _ _ c.items-clauses.ensures c.requires.firsts c.loop-i-test.true
    c.loop-i.invariant
    c.in_ok-begin.ensures

pub returns : goal.returns
returns c =
    let many = ap length c.items-clauses.ensures in
    c.loop-i.invariant ∙ spans_all c.args.body.now c.loop-i.i (omega (arith, many))
