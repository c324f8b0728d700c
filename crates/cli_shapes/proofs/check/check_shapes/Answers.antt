use Rattle.cli_shapes.proofs.Order.{found, met, unmet, all}
use Rattle.cli_shapes.proofs.check.check_shapes.Goals as goal

pub unmet-requires-clause-within : goal.unmet-requires-clause-within
unmet-requires-clause-within c = (found c.args.own.now all (c.in-Some.shape, c.in-Some.n) c.in-Some.ensures.broken).within

pub unmet-requires-clause-fails : goal.unmet-requires-clause-fails
unmet-requires-clause-fails c = (found c.args.own.now all (c.in-Some.shape, c.in-Some.n) c.in-Some.ensures.broken).fails

pub returns-in-Some-clause-unmet : goal.returns-in-Some-clause-unmet
returns-in-Some-clause-unmet c =
    unmet c.args.own.now (c.in-Some.shape, c.in-Some.n) c.unmet.result c.requires c.in-Some.ensures.broken c.unmet.ensures

pub returns-clause-met : goal.returns-clause-met
returns-clause-met c = met c.args.own.now c.in-None.ensures.met
