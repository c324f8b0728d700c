use Rattle.std.proofs.Common.{◌+◌, Option, subst, arith}
use Rattle.cli_sigs.specs.declared.refusal.SigCause.{SigCause}
use Rattle.cli_sigs.specs.Forms.{IsThe}
use Rattle.cli_sigs.specs.First.{Fails}
use Rattle.cli_sigs.proofs.Order.{first, one_more, whole}
use Rattle.cli_sigs.proofs.check.first_in.Goals as goal

pub returns-in-Some : goal.returns-in-Some
returns-in-Some c =
    first c.args.subject.now c.args.table c.loop-k.k c.in-Some.cause c.loop-k.invariant
    (subst (λ (found : Option SigCause). IsThe (Fails c.args.subject.now c.args.table (c.loop-k.k + 1)) found) c.in-Some.is c.in_ok-cause.ensures)

pub loop-k-preserved : goal.loop-k-preserved
loop-k-preserved c =
    one_more c.args.subject.now c.args.table c.loop-k.k c.loop-k.invariant
    (subst (λ (found : Option SigCause). IsThe (Fails c.args.subject.now c.args.table (c.loop-k.k + 1)) found) c.in_default.is c.in_ok-cause.ensures)

pub returns : goal.returns
returns c =
    let count = c.rows-k-end.ensures in
    let test = c.loop-k-test.false in
    whole c.args.subject.now c.args.table c.loop-k.k (omega (arith, test, count)) c.loop-k.invariant
