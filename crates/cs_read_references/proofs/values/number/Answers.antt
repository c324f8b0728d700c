use Rattle.std.specs.Prelude.{[], ◌∷◌}
use Rattle.cs_productions.specs.Kinds.{number}
use Rattle.cs_productions.specs.Tokens.{kind}
use Rattle.cs_references.specs.Members.{literal_form}
use Rattle.cs_read_types.proofs.Ones.{one_of}
use Rattle.cs_read_references.proofs.values.number.Goals as goal

pub returns : goal.returns
returns c = rw c.in_ok-form.ensures (one_of kind (number ∷ []) literal_form c.args.tokens.now c.in_ok-token.token c.take_one.new.tokens c.in_ok-token.ensures)
