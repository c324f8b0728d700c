-- A wrapping sum or difference is what is left of the whole one in 32 bits.
use Rattle.std.proofs.Common.{rules}
use Rattle.std.proofs.lemmas.Int.{wraps}
use Rattle.cil_meaning.proofs.row.computed.Goals as goal

pub returns-in-Add : goal.returns-in-Add
returns-in-Add c = search (rules, wraps)

pub returns-in-Sub : goal.returns-in-Sub
returns-in-Sub c = search (rules, wraps)
