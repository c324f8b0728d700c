use Rattle.std.proofs.Common.{inl, refl}
use Rattle.class_implemented.proofs.chain.open_anew.Goals as goal

pub returns-then-is_passed : goal.returns-then-is_passed
returns-then-is_passed c = λ m open_. c.if-is_passed.ensures refl m (inl open_)
