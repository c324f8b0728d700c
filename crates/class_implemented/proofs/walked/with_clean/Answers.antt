use Rattle.std.proofs.Common.{true, inl, inr}
use Rattle.class_implemented.proofs.Marks.{set_cases}
use Rattle.class_implemented.proofs.walked.with_clean.Goals as goal

pub returns-then-c-len : goal.returns-then-c-len
returns-then-c-len c = λ t at. elim (set_cases c.args.clean.items c.args.c.0 t true true at) [
  | inl new_ ↦ inl new_.0
  | inr old ↦ inr old
]
