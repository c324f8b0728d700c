use Rattle.cli_shapes.proofs.Marking.{kept, more}
use Rattle.cli_shapes.proofs.marks.marked.Goals as goal

pub returns-in-Some : goal.returns-in-Some
returns-in-Some c = λ are.
    more c.args.own.now c.args.sought c.args.k c.args.marks.items c.in-Some.t c.in-Some.ensures.some.0 c.in-Some.ensures.some.1 are

pub returns-in-None : goal.returns-in-None
returns-in-None c = λ are.
    kept c.args.own.now c.args.sought c.args.k c.args.marks.items c.in-None.ensures.none are
