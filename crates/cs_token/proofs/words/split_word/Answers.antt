use Rattle.std.proofs.Common.{rules}
use Rattle.cs_token.proofs.SoFar.{passed_more, passed_all}
use Rattle.cs_token.proofs.words.split_word.Goals as goal

pub loop-rest-preserved : goal.loop-rest-preserved
loop-rest-preserved c = (search rules, passed_more c.args.text.now c.loop-rest.left.now c.in-Some.rest.now c.loop-rest.invariant.1 c.in-Some.ensures)

pub returns-clause-word : goal.returns-clause-word
returns-clause-word c = passed_all c.args.text.now c.loop-rest.left.now c.before-2.result.now c.loop-rest.invariant.1 c.in_default.ensures.0 c.before-2.ensures
