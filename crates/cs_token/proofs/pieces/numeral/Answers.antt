use Rattle.cs_token.specs.Words.{is_digit}
use Rattle.cs_token.proofs.Parts.{past_class, past_under}
use Rattle.cs_token.proofs.pieces.numeral.Goals as goal

pub returns-clause-passes : goal.returns-clause-passes
returns-clause-passes c =
    let digits = past_class is_digit c.number-value.result.1.now c.args.text.now c.requires c.number-value.ensures.ends c.number-value.ensures.rest in
    past_under c.suffix-suffix.result.1.now c.number-value.result.1.now c.args.text.now c.suffix-suffix.ensures.ends digits
