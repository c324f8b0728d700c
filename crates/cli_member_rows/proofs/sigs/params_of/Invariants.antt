use Rattle.std.proofs.Common.{◌≡◌, take}
use Rattle.cli_member_rows.specs.Said.{params_of}
use Rattle.cli_member_rows.proofs.sigs.params_of.Given as goal

abbrev pub invariant-loop-raw : goal.invariant-loop-raw
invariant-loop-raw l = l.params.items ≡ params_of l.types (take l.raw-index l.raws)
