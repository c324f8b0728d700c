use Rattle.std.proofs.Common.{arith}
use Rattle.std.specs.Str.{chars}
use Rattle.cs_token.proofs.Parts.{itself, onward}
use Rattle.cs_lex.proofs.Cursors.{led_none, led_more, led_all, shorter}
use Rattle.cs_lex.proofs.cuts.counted.Goals as goal

pub loop-token-init : goal.loop-token-init
loop-token-init c = (c.utf8.text, led_none (chars c.args.text.now), itself c.args.text.now, omega arith)

pub overflow_add-count : goal.overflow_add-count
overflow_add-count c =
    let few = c.loop-token.invariant.3 in
    let size = c.requires in
    let less = c.in-Some.ensures.passes.shorter in
    omega arith

pub loop-token-smaller : goal.loop-token-smaller
loop-token-smaller c = shorter c.behind_gap-left.result.now c.in-Some.rest.now c.loop-token.left.now c.behind_gap-left.ensures.ends c.in-Some.ensures.passes

pub loop-token-preserved : goal.loop-token-preserved
loop-token-preserved c =
    let text = c.args.text.now in
    let left = c.loop-token.left.now in
    let rest = c.in-Some.rest.now in
    let next = c.behind_gap-left.result.now in
    let few = c.loop-token.invariant.3 in
    let less = shorter next rest left c.behind_gap-left.ensures.ends c.in-Some.ensures.passes in
    let led = led_more (chars text) c.loop-token.count (chars left) c.in-Some._token.lexeme (chars rest) (chars next) c.loop-token.invariant.1 c.in-Some.ensures.some c.behind_gap-left.ensures.rest in
    let follows = onward next left text (onward next rest left c.behind_gap-left.ensures.ends c.in-Some.ensures.passes.ends) c.loop-token.invariant.2 in
    (c.behind_gap-left.utf8, led, follows, omega arith)

pub returns-clause-count : goal.returns-clause-count
returns-clause-count c = led_all (chars c.args.text.now) c.loop-token.count (chars c.loop-token.left.now) c.loop-token.invariant.1

pub returns-clause-ends : goal.returns-clause-ends
returns-clause-ends c = c.loop-token.invariant.2
