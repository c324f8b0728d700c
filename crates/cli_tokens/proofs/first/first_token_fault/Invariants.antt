use Rattle.cli_tokens.proofs.UpTo.{UpTo}
use Rattle.cli_tokens.proofs.first.first_token_fault.Given as goal

abbrev pub invariant-loop-token : goal.invariant-loop-token
invariant-loop-token l = UpTo l.fn.metadata l.fn.tokens l.token-index l.least
