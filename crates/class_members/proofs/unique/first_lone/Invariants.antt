use Rattle.std.proofs.Common.{ℕ, ◌<◌}
use Rattle.class_members.specs.Known.{IsLone}
use Rattle.class_members.proofs.unique.first_lone.Given as goal

abbrev pub invariant-loop-m : goal.invariant-loop-m
invariant-loop-m l = (n : ℕ) → n < l.m → IsLone l.types l.members l.nameless n → ⊥
