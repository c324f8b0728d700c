use Rattle.std.proofs.Common.{◌+◌, arith}
use Rattle.cli_literals.specs.Fails.{IsBad}
use Rattle.cli_literals.proofs.FirstOff.{on_true, on_false, first, passed, none}
use Rattle.cli_literals.proofs.bad.first_bad_constant.Goals as goal

pub returns-then-branch : goal.returns-then-branch
returns-then-branch c =
    let bad = on_true (IsBad c.args.metadata.now c.args.fields.now (c.loop-k.k + 1)) _ c.in_ok-is_bad.ensures.yes c.if-branch.true in
    (c.loop-k.k + 1, c.field_token.ensures, first c.args.metadata.now c.args.fields.now c.loop-k.k c.loop-k.invariant bad)

pub loop-k-preserved : goal.loop-k-preserved
loop-k-preserved c =
    passed c.args.metadata.now c.args.fields.now c.loop-k.k c.loop-k.invariant
    (on_false (IsBad c.args.metadata.now c.args.fields.now (c.loop-k.k + 1) → ⊥) _ c.in_ok-is_bad.ensures.no c.if-branch.false)

pub returns : goal.returns
returns c =
    let over = c.loop-k-test.false in
    let rows = c.rows-k-end.ensures in
    none c.args.metadata.now c.args.fields.now c.loop-k.k c.loop-k.invariant (omega (arith, over, rows))
