-- What an error loses stands behind what was read.
use Rattle.std.proofs.Common.{◌+◌, rules}
use Rattle.std.proofs.lemmas.List.{places}
use Rattle.ilspy_outside.proofs.Reading.{loses_more}
use Rattle.ilspy_outside.proofs.front.read_front.Goals as goal

pub returns-in_err-read_more-clause-short : goal.returns-in_err-read_more-clause-short
returns-in_err-read_more-clause-short g c =
    loses_more _ _ _ c.loop-chunk.front.items _ (c.args.limit + 1) (search (rules, places)) c.loop-chunk.invariant.1 c.in_err-read_more.ensures.more
