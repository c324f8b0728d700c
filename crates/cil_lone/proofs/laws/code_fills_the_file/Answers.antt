use Rattle.cil_lone.proofs.Consequences.{operands_fit, code_is_consecutive, places_are_within, instructions_have_bytes}
use Rattle.cil_lone.proofs.laws.code_fills_the_file.Goals as goal

pub returns-clause-consecutive : goal.returns-clause-consecutive
returns-clause-consecutive c = code_is_consecutive

pub returns-clause-within : goal.returns-clause-within
returns-clause-within c = places_are_within

pub returns-clause-operands : goal.returns-clause-operands
returns-clause-operands c = operands_fit

pub returns-clause-some : goal.returns-clause-some
returns-clause-some c = instructions_have_bytes
