-- So far the trees of the statements before this one stand there.
use Rattle.std.proofs.Common.{◌≡◌, take}
use Rattle.std.specs.Prelude.{flat_map}
use Rattle.ilspy_body.specs.Tree.{syntax_of}
use Rattle.ilspy_body.proofs.tree.statements.Given as goal

abbrev pub invariant-loop-stmt : goal.invariant-loop-stmt
invariant-loop-stmt l = l.all ≡ flat_map syntax_of (take l.stmt-index l.stmts)
