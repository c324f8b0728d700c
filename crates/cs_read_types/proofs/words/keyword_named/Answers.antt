use Rattle.cs_productions.specs.Kinds.{keyword_types}
use Rattle.cs_productions.specs.Tokens.{kind}
use Rattle.cs_productions.specs.Types.{keyword_type_at}
use Rattle.cs_read_types.proofs.Ones.{one_of}
use Rattle.cs_read_types.proofs.words.keyword_named.Goals as goal

pub returns : goal.returns
returns c =
    rw (c.keyword_type.ensures, c.kind.ensures, c.spot.ensures)
    (one_of kind keyword_types keyword_type_at c.args.tokens.now c.in_ok-token.token c.take_one.new.tokens c.in_ok-token.ensures)
