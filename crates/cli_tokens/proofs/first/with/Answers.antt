use Rattle.std.proofs.Common.{refl}
use Rattle.cli_tokens.specs.Faults.{IsNext}
use Rattle.cli_tokens.proofs.first.with.Goals as goal

pub returns-in-Some : goal.returns-in-Some
returns-in-Some c = IsNext.fails (record { token = c.args.token; fault = c.in-Some.fault }) c.lesser.result refl c.in-Some.ensures.some c.lesser.ensures refl
