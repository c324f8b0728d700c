use Rattle.std.proofs.Common.{◌≡◌, ℕ, Some, inl, inr}
use Rattle.class_implemented.proofs.Marks.{set_cases}
use Rattle.class_implemented.proofs.passed.with_one.Goals as goal

some_number : (a b : ℕ) → Some a ≡ Some b → b ≡ a
some_number a b h = cc

pub returns-then-i-len : goal.returns-then-i-len
returns-then-i-len c = λ t x at. elim (set_cases c.args.passed.items c.args.i t (Some c.args.c.0) (Some x) at) [
  | inl new_ ↦ inl (some_number c.args.c.0 x new_.1, new_.0)
  | inr old ↦ inr old
]
