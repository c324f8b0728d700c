use Rattle.std.proofs.Common.{subst, rules}
use Rattle.std.specs.Str.{chars}
use Rattle.cs_read_texts.specs.Texts.{IsRead}
use Rattle.cs_read.specs.Depths.{text_grammar, wider_grammar}
use Rattle.cs_roundtrip.proofs.Answered.{back_of}
use Rattle.cs_roundtrip.proofs.back.printed_and_read.Goals as goal

pub returns : goal.returns
returns c = record { back = back_of c.args.unit.now c.requires.printable c.read.result (subst (λ t. IsRead text_grammar wider_grammar (chars t) c.read.result) (search rules) c.read.ensures) }
