use Rattle.cs_productions.specs.Tokens.{kind, name_of}
use Rattle.cs_read_types.proofs.Ones.{one_of}
use Rattle.cs_read_members.proofs.parts.named.Goals as goal

pub returns : goal.returns
returns c = rw (c.in_ok-text.ensures, c.spot.ensures) (one_of kind c.args.kinds.now name_of c.args.tokens.now c.in_ok-token.token c.take_one.new.tokens c.in_ok-token.ensures)
