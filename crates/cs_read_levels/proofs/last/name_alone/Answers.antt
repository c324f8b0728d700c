use Rattle.std.specs.Prelude.{[], ◌∷◌}
use Rattle.cs_productions.specs.Kinds.{name}
use Rattle.cs_productions.specs.Tokens.{kind}
use Rattle.cs_productions.specs.Primaries.{global_leaf}
use Rattle.cs_read_types.proofs.Ones.{one_of}
use Rattle.cs_read_levels.proofs.last.name_alone.Goals as goal

pub returns : goal.returns
returns c = rw (c.leaf.ensures, c.in_ok-text.ensures, c.spot-spot.ensures) (one_of kind (name ∷ []) global_leaf c.args.tokens.now c.in_ok-token.token c.take_one.new.tokens c.in_ok-token.ensures)
