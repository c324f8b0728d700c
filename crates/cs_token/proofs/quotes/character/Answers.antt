use Rattle.cs_token.proofs.Parts.{past}
use Rattle.cs_token.proofs.quotes.character.Goals as goal

pub returns-clause-passes : goal.returns-clause-passes
returns-clause-passes c = past c.in_ok-behind_quote.field-0.now c.in_ok-units.rest.now c.args.text.now c.in_ok-behind_quote.ensures.passes c.in_ok-units.ensures.passes
