use Rattle.std.proofs.Common.{◌≡◌, true, false, sym, ◌∙◌}
use Rattle.std.specs.Str.{bytes_eq}
use Rattle.cli_metadata.specs.Root.{headers_at, named_in}
use Rattle.cli_metadata.specs.RootViews.{header_of}
use Rattle.cli_metadata.proofs.Headers.{seeks-hit, seeks-miss, seeks-err, seeks-none}
use Rattle.cli_metadata.proofs.root.find.Goals as goal

pub returns-in_default : goal.returns-in_default
returns-in_default c =
    seeks-err c.args.name.now c.args.root.count c.loop.counter c.args.bytes.now c.loop.at c.in_default.field-0 (named_in c.args.name.now (headers_at c.args.root.count c.args.bytes.now c.args.root.at)) c.loop-test.true c.in_default.ensures.header c.loop.invariant.0

pub returns-then-eq : goal.returns-then-eq
returns-then-eq c =
    let hit : bytes_eq c.in-Ok.header.name.now c.args.name.now ≡ true = sym c.eq.ensures ∙ c.if-eq.true in
    seeks-hit c.args.name.now c.args.root.count c.loop.counter c.args.bytes.now c.loop.at (header_of c.in-Ok.header) (named_in c.args.name.now (headers_at c.args.root.count c.args.bytes.now c.args.root.at)) c.loop-test.true c.in-Ok.ensures.header hit c.loop.invariant.0

pub loop-preserved : goal.loop-preserved
loop-preserved c =
    let miss : bytes_eq c.in-Ok.header.name.now c.args.name.now ≡ false = sym c.eq.ensures ∙ c.if-eq.false in
    (seeks-miss c.args.name.now c.args.root.count c.loop.counter c.args.bytes.now c.loop.at (header_of c.in-Ok.header) (named_in c.args.name.now (headers_at c.args.root.count c.args.bytes.now c.args.root.at)) c.loop-test.true c.in-Ok.ensures.header miss c.loop.invariant.0, c.in-Ok.ensures.whole)

pub returns : goal.returns
returns c =
    seeks-none c.args.name.now c.args.root.count c.loop.counter c.args.bytes.now c.loop.at (named_in c.args.name.now (headers_at c.args.root.count c.args.bytes.now c.args.root.at)) c.loop-test.false c.loop.invariant.0
