use Rattle.std.proofs.Common.{◌≡◌, take}
use Rattle.cli_slots.specs.Known.{with_virts}
use Rattle.cli_slots.proofs.slots.with_virts.Given as goal

abbrev pub invariant-loop-m : goal.invariant-loop-m
invariant-loop-m l = l.members.items ≡ with_virts l.fn.members.items (take l.m l.virts)
