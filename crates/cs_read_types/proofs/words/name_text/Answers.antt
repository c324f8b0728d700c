use Rattle.cs_productions.specs.Kinds.{names}
use Rattle.cs_productions.specs.Tokens.{kind, text_of}
use Rattle.cs_read_types.proofs.Ones.{one_of}
use Rattle.cs_read_types.proofs.words.name_text.Goals as goal

pub returns : goal.returns
returns c = rw c.in_ok-text.ensures (one_of kind names text_of c.args.tokens.now c.in_ok-token.token c.take_one.new.tokens c.in_ok-token.ensures)
