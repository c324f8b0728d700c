use Rattle.std.proofs.Common.{refl}
use Rattle.cli_tokens.specs.Faults.{IsLesser}
use Rattle.cli_tokens.proofs.least.lesser.Goals as goal

pub returns-in-Some : goal.returns-in-Some
returns-in-Some c = IsLesser.old c.in-Some.least c.in-Some.is c.if-least-other.true refl
