use Rattle.std.proofs.Common.{refl}
use Rattle.dc_causes.specs.Step.{stop}
use Rattle.verify_accepts.proofs.order.accept.Goals as goal

pub returns-in-Err-clause-broken : goal.returns-in-Err-clause-broken
returns-in-Err-clause-broken c = stop c.in-Err.rule c.in-Err.ensures.broken refl
