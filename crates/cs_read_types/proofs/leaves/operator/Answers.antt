use Rattle.cs_productions.specs.Tokens.{kind}
use Rattle.cs_read_types.proofs.Ones.{one_of}
use Rattle.cs_read_types.proofs.leaves.operator.Goals as goal

pub returns : goal.returns
returns c = rw c.kind.ensures (one_of kind c.args.kinds.now kind c.args.tokens.now c.in_ok-take_one.field-0 c.take_one.new.tokens c.in_ok-take_one.ensures)
