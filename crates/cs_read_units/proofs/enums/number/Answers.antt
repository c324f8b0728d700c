use Rattle.std.specs.Prelude.{[], ◌∷◌}
use Rattle.cs_productions.specs.Kinds.{number}
use Rattle.cs_productions.specs.Tokens.{kind}
use Rattle.cs_units.specs.Declarations.{number_of_token}
use Rattle.cs_read_types.proofs.Ones.{one_of}
use Rattle.cs_read_units.proofs.enums.number.Goals as goal

pub returns : goal.returns
returns c = rw c.in_ok-value_of.ensures (one_of kind (number ∷ []) number_of_token c.args.tokens.now c.in_ok-token.token c.take_one.new.tokens c.in_ok-token.ensures)
