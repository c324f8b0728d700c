-- So far the files before this one were read.
use Rattle.std.proofs.Common.{map, take}
use Rattle.ilspy_cli.specs.Files.{shelved, wanted}
use Rattle.ilspy_cli.proofs.Taken.{SoFar}
use Rattle.ilspy_cli.proofs.taking.take_all.Given as goal

abbrev pub invariant-loop-name : goal.invariant-loop-name
invariant-loop-name g l =
    SoFar (shelved (g.S.Shelf.files l.initial.shelf) (g.S.Shelf.faults l.initial.shelf) (g.S.Shelf.faults l.shelf) (g.S.Shelf.last l.initial.shelf) (g.S.Shelf.last l.shelf)
    (g.S.Shelf.given l.initial.shelf) (g.S.Shelf.given l.shelf))
    (g.S.Shelf.files l.shelf) (map (λ file. wanted file.0.now file.1) (take l.name-index l.files)) (map (λ file. file.items) l.contents.items)
