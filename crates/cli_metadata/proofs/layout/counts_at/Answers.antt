use Rattle.std.proofs.Common.{sym}
use Rattle.std.proofs.lemmas.Result.{err_from_is_err_and}
use Rattle.std.proofs.Math.ListN.{length-set}
use Rattle.cli_metadata.specs.Layout.{counts_at}
use Rattle.cli_metadata.proofs.Places.{counts-more, counts-err, counts-none}
use Rattle.cli_metadata.proofs.layout.counts_at.Goals as goal

pub returns-in_err-rows-clause-counts : goal.returns-in_err-rows-clause-counts
returns-in_err-rows-clause-counts c =
    let p = err_from_is_err_and c.from_residual.result c.from_residual.ensures.1 in
    rw (p.1, p.2) (counts-err c.loop-i.i c.loop-i.bits c.args.bytes.now c.loop-i.at c.in_err-rows.field-0.0 c.loop-i.counts (counts_at 45 c.args.valid c.args.bytes.now c.args.at) c.loop-i-test.true (sym c.in_err-rows.ensures.count) c.loop-i.invariant.0)

pub loop-i-preserved : goal.loop-i-preserved
loop-i-preserved c = (
  counts-more c.loop-i.i c.loop-i.bits c.args.bytes.now c.loop-i.at c.in_ok-rows.rows c.in_ok-rows.end c.loop-i.counts (counts_at 45 c.args.valid c.args.bytes.now c.args.at) c.loop-i-test.true c.loop-i.invariant.2 (sym c.in_ok-rows.ensures.count) c.loop-i.invariant.0,
  c.in_ok-rows.ensures.whole,
  rw length-set c.loop-i.invariant.2,
)

pub returns-clause-counts : goal.returns-clause-counts
returns-clause-counts c =
    counts-none c.loop-i.i c.loop-i.bits c.args.bytes.now c.loop-i.at c.loop-i.counts (counts_at 45 c.args.valid c.args.bytes.now c.args.at) c.loop-i-test.false c.loop-i.invariant.2 c.loop-i.invariant.0
