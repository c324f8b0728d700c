use Rattle.std.proofs.Common.{◌≡◌, take}
use Rattle.std.specs.String.{string_bytes}
use Rattle.cs_layout.specs.Pieces.{followed}
use Rattle.cs_layout.specs.Words.{more_names}
use Rattle.cs_layout.proofs.words.write_more_names.Given as goal

abbrev pub invariant-loop-text : goal.invariant-loop-text
invariant-loop-text l = string_bytes l.out ≡ followed (string_bytes l.initial.out) (more_names (take l.text-index l.names))
