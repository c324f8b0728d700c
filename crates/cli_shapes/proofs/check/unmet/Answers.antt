use Rattle.std.proofs.Common.{Bool, true, false}
use Rattle.std.specs.Bool.{OnTrue, OnFalse}
use Rattle.cli_shapes.specs.Shapes.{FailsAt}
use Rattle.cli_shapes.proofs.check.unmet.Goals as goal

one_of_both : (P : Type 0) (b : Bool) → OnTrue b P → OnFalse b (P → ⊥) → ((P → ⊥) → ⊥) → P
one_of_both P true so off not = so
one_of_both P false so off not = absurd (not off)

pub returns : goal.returns
returns c = record {
  fails = one_of_both (FailsAt c.args.shape c.args.rows.now c.args.n) _ c.fails-fails.ensures.yes c.fails-fails.ensures.no c.requires.fails;
  condition = c.condition.ensures;
  token = c.token.ensures;
}
