-- So far the names before this one have these values.
use Rattle.std.proofs.Common.{◌≡◌, Some, map, take}
use Rattle.clap.specs.Walk.{rows_of, first_of}
use Rattle.clap.specs.Matches.{found_of}
use Rattle.ilspy_cli.proofs.words.values.Given as goal

abbrev pub invariant-loop-name : goal.invariant-loop-name
invariant-loop-name l =
    map (λ name. first_of name.now (rows_of (found_of l.matches))) (take l.name-index l.names) ≡ map Some (map (λ value. value.now) l.values.items)
