-- So far the first `done` bytes are written, and no fault is counted.
use Rattle.std.proofs.Common.{◌-◌, length}
use Rattle.ilspy_cli.proofs.Progress.{Progress}
use Rattle.ilspy_cli.proofs.put.put_all.Given as goal

abbrev pub invariant-loop-done : goal.invariant-loop-done
invariant-loop-done g l = Progress (g.K.Sink.written l.initial.out) (g.K.Sink.written l.out) (g.K.Sink.faults l.initial.out) (g.K.Sink.faults l.out) l.text l.done

abbrev pub decreases-loop-done : goal.decreases-loop-done
decreases-loop-done g l = length l.text - l.done
