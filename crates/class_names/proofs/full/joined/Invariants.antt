use Rattle.std.proofs.Common.{◌≡◌, ◌++◌, map, take}
use Rattle.std.specs.String.{string_bytes}
use Rattle.class_rows.specs.Names.{dotted}
use Rattle.class_names.specs.Inner.{behind}
use Rattle.class_names.proofs.full.joined.Given as goal

abbrev pub invariant-loop-index : goal.invariant-loop-index
invariant-loop-index l =
    string_bytes l.name ++ behind (map (λ part. part.now) (take l.index l.inner)) ≡ dotted l.top.space l.top.name ++ behind (map (λ part. part.now) l.inner)
