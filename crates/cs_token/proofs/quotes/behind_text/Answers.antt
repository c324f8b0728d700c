use Rattle.std.proofs.Common.{rules, ◌++◌, ◌∙◌, ap}
use Rattle.std.specs.Str.{chars}
use Rattle.cs_token.specs.Pieces.{units_of, text_from}
use Rattle.cs_token.proofs.Parts.{onward, past_on}
use Rattle.cs_token.proofs.Texts.{joins_more}
use Rattle.cs_token.proofs.quotes.behind_text.Goals as goal

pub loop-units-preserved : goal.loop-units-preserved
loop-units-preserved c =
    let text = c.args.text.now in
    let left = c.loop-units.left.now in
    let rest = c.in-Some.rest.now in
    let so_far = c.loop-units.invariant.1 in
    let units = units_of c.in-Some-units.field-0 in
    let more = joins_more so_far.0 units text left rest so_far.1 (c.in-Some.ensures.value ∙ ap (λ u. text_from u (chars rest)) c.in-Some-units.is) in
    (search rules, (so_far.0 ++ units, more), onward rest left text c.in-Some.ensures.passes.ends c.loop-units.invariant.2)

pub returns-in-None-clause-passes : goal.returns-in-None-clause-passes
returns-in-None-clause-passes c = past_on c.in-Some.rest.now c.loop-units.left.now c.args.text.now c.in-Some.ensures.passes c.loop-units.invariant.2
