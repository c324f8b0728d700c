use Rattle.std.proofs.Common.{List, Bool, sym, subst, arith}
use Rattle.cli_shapes.specs.Marks.{AreMarks}
use Rattle.cli_shapes.proofs.Marking.{whole}
use Rattle.cli_shapes.proofs.marks.marks_of.Goals as goal

pub returns : goal.returns
returns c =
    let over = c.loop-k-test.false in
    subst (λ (marks : List Bool). AreMarks c.args.own.now c.args.sought marks) (sym c.of.ensures)
    (whole c.args.own.now c.args.sought c.loop-k.k c.loop-k.marks.items c.requires (omega (arith, over)) c.loop-k.invariant)
