use Rattle.std.proofs.Common.{◌≡◌, take}
use Rattle.std.specs.List.{flat_map}
use Rattle.std.specs.String.{string_bytes}
use Rattle.cs_layout.specs.Pieces.{followed}
use Rattle.cs_layout.specs.Layout.{label_pieces}
use Rattle.cs_lines.proofs.parts.write_labels.Given as goal

abbrev pub invariant-loop-label : goal.invariant-loop-label
invariant-loop-label l = string_bytes l.out ≡ followed (string_bytes l.initial.out) (flat_map (label_pieces l.margin) (take l.label-index l.labels))
