-- A write takes the piece further, or leaves it where it was.
use Rattle.std.proofs.lemmas.List.{take_rest}
use Rattle.std.proofs.KnownBytes.{Appends-kept}
use Rattle.ilspy_outside.proofs.Writing.{further}
use Rattle.ilspy_outside.proofs.out_sink.write_front.Goals as goal
use Rattle.ilspy_outside.proofs.out_sink.write_front.Goals.{in-Ok, in-Err}

pub loop-preserved : goal.loop-preserved
loop-preserved g c =
    let so = c.loop.invariant in
    elim c.match-write.branch [
      | in-Ok w ↦ rw w.done-is (further _ _ _ c.args.piece.now _ c.loop.done _ (take_rest c.args.piece.now c.loop.done) so.0 w.in-Ok.ensures.bound so.1 w.in-Ok.ensures.bytes)
      | in-Err w ↦ rw w.done-is (so.0, Appends-kept _ _ _ _ so.1 w.in-Err.ensures.bytes)
    ]
