use Rattle.cli_refs.specs.Picks.{ArePlaces}
use Rattle.cli_refs.proofs.pick.places_of.Given as goal

abbrev pub invariant-loop-m : goal.invariant-loop-m
invariant-loop-m l = ArePlaces l.members l.signs l.m l.places.items
