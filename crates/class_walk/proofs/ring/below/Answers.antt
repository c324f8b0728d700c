use Rattle.std.proofs.Common.{refl, inr}
use Rattle.class_walk.proofs.ring.below.Goals as goal

pub returns-in-None : goal.returns-in-None
returns-in-None c = inr (refl, λ b base. absurd (c.in-None.ensures.none b base))
