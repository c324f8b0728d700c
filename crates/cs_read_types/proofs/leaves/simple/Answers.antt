use Rattle.cs_productions.specs.Kinds.{simple_kinds}
use Rattle.cs_productions.specs.Tokens.{kind, simple_of}
use Rattle.cs_read_types.proofs.Ones.{one_of}
use Rattle.cs_read_types.proofs.leaves.simple.Goals as goal

pub returns : goal.returns
returns c =
    rw (c.in_ok-form.ensures, c.spot.ensures) (one_of kind simple_kinds simple_of c.args.tokens.now c.in_ok-token.token c.take_one.new.tokens c.in_ok-token.ensures)
