use Rattle.cli_shapes.specs.Marks.{Is}
use Rattle.cli_shapes.proofs.Marking.{no_type}
use Rattle.cli_shapes.proofs.marks.sought_type.Goals as goal

pub returns-clause-none : goal.returns-clause-none
returns-clause-none c =
    no_type c.args.own.now (Is c.args.own.now c.args.sought) c.args.k c.member_row-row.result.now c.own_type.result c.member_row-row.ensures c.own_type.ensures.none
