use Rattle.std.proofs.Common.{rules, ◌∙◌, ap}
use Rattle.cs_token.specs.Words.{behind_gap}
use Rattle.cs_token.proofs.Parts.{onward}
use Rattle.cs_token.proofs.gaps.behind_gap.Goals as goal

pub loop-first-preserved : goal.loop-first-preserved
loop-first-preserved c =
    let kept = c.loop-first.invariant in
    let here = c.in-Some.ensures in
    (search rules, kept.1 ∙ (ap (behind_gap c.loop-first.inside) here.read ∙ c.in-Some-goes_on.ensures), onward c.in-Some.rest.now c.loop-first.left.now c.args.text.now here.passes.ends kept.2)
