use Rattle.cs_token.proofs.OneCut.{one_cut_of}
use Rattle.cs_token.proofs.tokens.one_cut.Goals as goal

pub returns : goal.returns
returns c = λ text ts us rest other a b. one_cut_of text text ts us rest other a.0 a.1 b.0 b.1
