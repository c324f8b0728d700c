use Rattle.std.proofs.Common.{rules}
use Rattle.cs_token.proofs.Digits.{counted_more}
use Rattle.cs_token.proofs.numbers.number.Goals as goal

pub loop-digit-preserved : goal.loop-digit-preserved
loop-digit-preserved c =
    let k = counted_more c.loop-digit.value c.args.text.now c.loop-digit.left.now c.in-Some.rest.now c.in-Some.digit c.loop-digit.invariant.1 c.in-Some.ensures.digit in
    (search rules, rw c.shifted-value.ensures k)
