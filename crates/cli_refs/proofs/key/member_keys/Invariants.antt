use Rattle.cli_refs.specs.Keys.{AreMemberKeys}
use Rattle.cli_refs.proofs.key.member_keys.Given as goal

abbrev pub invariant-loop-m : goal.invariant-loop-m
invariant-loop-m l = AreMemberKeys l.members l.m l.keys.items
