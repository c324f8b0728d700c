-- An instruction has a byte at least, so there are fewer instructions than bytes.
use Rattle.std.proofs.Common.{length, arith}
use Rattle.ilspy_body.proofs.CilRuns.{consecutive_length}
use Rattle.ilspy_body.proofs.meaning.code_can_be_flattened.Goals as goal

pub returns-clause-short : goal.returns-clause-short
returns-clause-short c = λ file code short lone.
    omega (arith, short, consecutive_length 1 code (length file) (c.code_fills_the_file.ensures.consecutive file code lone))

pub returns-clause-operands : goal.returns-clause-operands
returns-clause-operands c = c.code_fills_the_file.ensures.operands
