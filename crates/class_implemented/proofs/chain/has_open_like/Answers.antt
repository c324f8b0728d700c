use Rattle.class_open.specs.Trail.{IsAlikeTo}
use Rattle.class_open.proofs.Path.{first_has}
use Rattle.class_implemented.proofs.chain.has_open_like.Goals as goal

pub returns-in-Some-clause-yes : goal.returns-in-Some-clause-yes
returns-in-Some-clause-yes c = λ _.
    let known = c.args.known.now in
    let x = c.in-Some.field-0 in
    let has = first_has known.members.now known.implicit.now (IsAlikeTo known.types.now known.members.now c.args.due.now) c.args.stacks.now.trail x c.in-Some.ensures.some in
    (x, has.0, has.1)
