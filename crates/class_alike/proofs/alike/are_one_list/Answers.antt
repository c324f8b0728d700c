use Rattle.class_alike.proofs.Params.{as_long}
use Rattle.class_alike.proofs.alike.are_one_list.Goals as goal

pub returns-then-ps-qs-clause-no : goal.returns-then-ps-qs-clause-no
returns-then-ps-qs-clause-no c = λ one. absurd (c.if-ps-qs.true (as_long c.args.across c.args.ps.now c.args.qs.now one))
