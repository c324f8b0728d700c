use Rattle.std.proofs.Common.{◌≡◌}
use Rattle.std.specs.String.{string_bytes}
use Rattle.cs_unit_layout.specs.Units.{margin_of}
use Rattle.cs_print.proofs.texts.margin.Given as goal

abbrev pub invariant-loop-level : goal.invariant-loop-level
invariant-loop-level l = string_bytes l.text ≡ margin_of l._level
