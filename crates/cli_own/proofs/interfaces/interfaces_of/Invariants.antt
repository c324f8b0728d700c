use Rattle.std.proofs.Common.{map}
use Rattle.cli_own.proofs.Named.{AreEmpty, AreNamedBy}
use Rattle.cli_own.proofs.interfaces.interfaces_of.Given as goal

abbrev pub invariant-loop : goal.invariant-loop
invariant-loop l = AreEmpty l.counter (map (λ l. l.items) l.lists.items)

abbrev pub invariant-loop-k : goal.invariant-loop-k
invariant-loop-k l = AreNamedBy l.metadata l.tokens l.k (map (λ l. l.items) l.lists.items)
