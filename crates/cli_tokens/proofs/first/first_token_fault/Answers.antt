use Rattle.std.proofs.lemmas.Option.{slice_get-get_or}
use Rattle.cli_tokens.proofs.UpTo.{one_more}
use Rattle.cli_tokens.proofs.first.first_token_fault.Goals as goal

pub loop-token-preserved : goal.loop-token-preserved
loop-token-preserved c = one_more c.args.metadata.now c.args.tokens.now c.loop-token.token-index _ c.loop-token.least c.with-least.result (slice_get-get_or c.args.tokens.now c.loop-token.token-index _ c.loop-token-test.true) c.with-least.ensures c.loop-token.invariant
