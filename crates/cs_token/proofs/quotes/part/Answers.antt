use Rattle.std.specs.Str.{chars}
use Rattle.cs_token.specs.Pieces.{units_of}
use Rattle.cs_token.proofs.Texts.{text_more}
use Rattle.cs_token.proofs.quotes.part.Goals as goal

pub returns-clause-value : goal.returns-clause-value
returns-clause-value c = text_more (chars c.args.text.now) (units_of c.in_ok-units.units) (chars c.in_ok-units.rest.now) c.in_default.ensures.value c.in_ok-units.ensures.value
