use Rattle.std.proofs.lemmas.Result.{err_from_is_err_and}
use Rattle.cli_metadata.specs.Root.{headers_at, end_of}
use Rattle.cli_metadata.specs.RootViews.{header_of}
use Rattle.cli_metadata.proofs.Headers.{end-more, end-err, end-none}
use Rattle.cli_metadata.proofs.root.headers_end.Goals as goal

pub returns-in_err-at-clause-end : goal.returns-in_err-at-clause-end
returns-in_err-at-clause-end c =
    let p = err_from_is_err_and c.from_residual.result c.from_residual.ensures.1 in
    rw (p.1, p.2) (end-err c.args.root.count c.loop.counter c.args.bytes.now c.loop.at c.in_err-at.field-0.0 (end_of (headers_at c.args.root.count c.args.bytes.now c.args.root.at)) c.loop-test.true c.in_err-at.ensures.header c.loop.invariant.0)

pub loop-preserved : goal.loop-preserved
loop-preserved c = (
  end-more c.args.root.count c.loop.counter c.args.bytes.now c.loop.at (header_of c.in_ok-at.field-0) (end_of (headers_at c.args.root.count c.args.bytes.now c.args.root.at)) c.loop-test.true c.in_ok-at.ensures.header c.loop.invariant.0,
  c.in_ok-at.ensures.whole,
)

pub returns-clause-end : goal.returns-clause-end
returns-clause-end c =
    end-none c.args.root.count c.loop.counter c.args.bytes.now c.loop.at (end_of (headers_at c.args.root.count c.args.bytes.now c.args.root.at)) c.loop-test.false c.loop.invariant.0
